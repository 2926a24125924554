-- The code of a version attempt, which stands in finite maps.
use Rattle.std.specs.Prelude.{ℕ, List, refl}
use Rattle.std.specs.Coded.{Coded, code_by, coded×, coded_ℕ, coded_list}
use Rattle.protocol.specs.Master.{VersionAttempt}

abbrev pub coded_attempt : Coded VersionAttempt
coded_attempt =
    code_by (ℕ × (List ℕ × (List ℕ × ℕ))) (coded× coded_ℕ (coded× (coded_list coded_ℕ) (coded× (coded_list coded_ℕ) coded_ℕ)))
    (λ a. (a.version, (a.servers, (a.recorded, a.begun))))
    (λ p. record { version = p.0; servers = p.1.0; recorded = p.1.1.0; begun = p.1.1.1 })
    (λ _. refl)
