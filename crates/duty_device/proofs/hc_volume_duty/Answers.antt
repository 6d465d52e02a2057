-- `duty_device::hc_volume_duty` meets its contract: the answer of the duty call, for C.
use Rattle.duty.proofs.Sums.{given_call}
use Rattle.duty_device.proofs.hc_volume_duty.Goals as goal

pub returns : goal.returns
returns c = rw c.into.ensures (given_call c.args.rates.now c.args.string.now c.volume_duty.result c.volume_duty.ensures)
