-- What the errors of the system mean here.
use Rattle.std.specs.Prelude.{Bool, true, false, Result, Ok, Err}
use Rattle.std.specs.IoError.{error_kind}
use Rattle.std.specs.declared.io.Error.{Error}
use Rattle.std.specs.declared.io.ErrorKind.{ErrorKind}
use Rattle.std.specs.declared.io.ErrorKind.TheVariants.{Interrupted, NotFound, OutOfMemory}
use Rattle.host_io.specs.declared.faults.Fault.{Fault}
use Rattle.host_io.specs.declared.faults.Fault.TheVariants as fault
use Rattle.host_io.specs.declared.files.Fetched.{Fetched}
use Rattle.host_io.specs.declared.files.Fetched.TheVariants as fetched
use Rattle.host_io.specs.declared.files.Stored.{Stored}
use Rattle.host_io.specs.declared.files.Stored.TheVariants as stored

-- why a call failed with an error of this kind
abbrev pub fault_of : ErrorKind → Fault
fault_of Interrupted = fault.Interrupted
fault_of NotFound = fault.Missing
fault_of OutOfMemory = fault.Memory
fault_of kind = fault.Other

-- how a fetch ends that failed for this reason
abbrev pub fetched_after : Fault → Fetched
fetched_after fault.Interrupted = fetched.Failed
fetched_after fault.Missing = fetched.Missing
fetched_after fault.Memory = fetched.Memory
fetched_after fault.Other = fetched.Failed

-- how a fetch ends where the system answered so: with all bytes, or with as many as the limit
abbrev pub fetched_from : Result Bool Error → Fetched
fetched_from (Ok true) = fetched.Found
fetched_from (Ok false) = fetched.Longer
fetched_from (Err error) = fetched_after (fault_of (error_kind error))

-- how a store ends that failed for this reason
abbrev pub stored_after : Fault → Stored
stored_after fault.Interrupted = stored.Failed
stored_after fault.Missing = stored.Failed
stored_after fault.Memory = stored.Memory
stored_after fault.Other = stored.Failed

-- how a store ends where the system answered so
abbrev pub stored_from : Result Unit Error → Stored
stored_from (Ok done) = stored.Done
stored_from (Err error) = stored_after (fault_of (error_kind error))
