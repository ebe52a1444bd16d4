-- What contracts see of a wrapped reader or writer.
use Rattle.std.specs.Prelude.{Bool}
use Rattle.pfl_base.specs.declared.std_device.Std.{Std}

module _ {D : Type 0} where
  -- the reader or writer itself
  abbrev pub device_of : Std D → D
  device_of s = s.device

  -- a call has failed
  abbrev pub has_failed : Std D → Bool
  has_failed s = s.failed
