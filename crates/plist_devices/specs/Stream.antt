-- What contracts know of a `Stream`.
use Rattle.std.specs.Prelude.{ℕ, List, Option, Some}
use Rattle.std.specs.Borrow.{GName}
use Rattle.plist_devices.specs.declared.stream.Stream.{Stream}

-- the device as it is now
abbrev pub device_now : {D : Type 0} → Stream D → D
device_now stream = stream.device.now

-- the bytes still to come, or taken, if the device knows them
abbrev pub stream_view : {D : Type 0} → (D → Option (List ℕ)) → Stream D → Option (List ℕ)
stream_view octets stream = octets (device_now stream)

-- the borrowed device
abbrev pub stream_device : {D : Type 0} → Stream D → Option GName
stream_device stream = Some stream.device.ghost_name

-- the number of takes or puts that failed, up to the maximum
abbrev pub stream_failures : {D : Type 0} → Stream D → ℕ
stream_failures stream = stream.failures
