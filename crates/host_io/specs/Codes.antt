-- The files in memory are data: each record is stored as the tuple of its fields.
use Rattle.std.specs.Prelude.{ℕ, List, refl}
use Rattle.std.specs.Coded.{Coded, code_by, coded×, coded_ℕ, coded_list}
use Rattle.std.specs.FinMap.{code}
use Rattle.host_io.specs.Counts.{FileCounts}
use Rattle.host_io.specs.Files.{Held}
use Rattle.host_io.specs.Memory.{FilesInMemory}

abbrev pub coded_bytes : Coded (List ℕ)
coded_bytes = coded_list coded_ℕ

abbrev pub coded_counts : Coded FileCounts
coded_counts =
    code_by (ℕ × (ℕ × ℕ)) (coded× coded_ℕ (coded× coded_ℕ coded_ℕ))
    (λ c. (c.misses, (c.fetch_faults, c.store_faults)))
    (λ p. record { misses = p.0; fetch_faults = p.1.0; store_faults = p.1.1 })
    (λ _. refl)

abbrev pub coded_files : Coded FilesInMemory
coded_files =
    code_by (Held × (List ℕ × (ℕ × FileCounts)))
    (coded× (code coded_bytes coded_bytes) (coded× coded_bytes (coded× coded_ℕ coded_counts)))
    (λ f. (f.held, (f.failing, (f.calls, f.counts))))
    (λ p. record { held = p.0; failing = p.1.0; calls = p.1.1.0; counts = p.1.1.1 })
    (λ _. refl)
