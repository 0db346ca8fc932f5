-- Faults that are the same but for where they lie in memory.
use Rattle.std.specs.Prelude.{◌≡◌, string_bytes}
use Rattle.loading.specs.declared.text.LoadFault.{LoadFault}
use Rattle.loading.specs.declared.text.LoadFault.TheVariants as fault

-- a fault that what is held decides: no fault of a read, and not out of memory
abbrev pub IsDecided : LoadFault → Type 0
IsDecided fault.Unreadable = ⊥
IsDecided fault.Memory = ⊥
IsDecided f = Unit {0}

-- one fault at one path
abbrev pub SameFault : LoadFault → LoadFault → Type 0
SameFault (fault.Missing p) (fault.Missing q) = string_bytes p ≡ string_bytes q
SameFault (fault.NoTokens f p) (fault.NoTokens g q) = (f ≡ g) × (string_bytes p ≡ string_bytes q)
SameFault (fault.NoModule f p) (fault.NoModule g q) = (f ≡ g) × (string_bytes p ≡ string_bytes q)
SameFault (fault.Cycle p) (fault.Cycle q) = string_bytes p ≡ string_bytes q
SameFault (fault.TooMany p) (fault.TooMany q) = string_bytes p ≡ string_bytes q
SameFault fault.Unreadable fault.Unreadable = Unit {0}
SameFault fault.Memory fault.Memory = Unit {0}
SameFault _ _ = ⊥
