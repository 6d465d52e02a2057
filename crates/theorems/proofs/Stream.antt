-- Ciphering is with the keystream of the papers. Assumes nothing.
use Rattle.keystream.proofs.Keystream.{ciphered_keystream, tables_at}
use Rattle.theorems.specs.Stream.{Stream}

pub stream : Stream
stream = record { ciphered_bytes = ciphered_keystream; tables_left = tables_at }
