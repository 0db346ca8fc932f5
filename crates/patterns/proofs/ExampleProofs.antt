-- The test answers as the examples say.
use Rattle.std.proofs.Common.{◌≡◌, true, List, [], ◌∷◌, refl}
use Rattle.std.specs.List.{list_all, All}
use Rattle.std.proofs.lemmas.List.Elements.{All-cons, All-nil}
use Rattle.patterns.specs.Examples.{Example, HoldsAtAll, is_found_same, every_example}
use Rattle.patterns.proofs.SameLaws.{both}
use Rattle.patterns.proofs.Soundness.{same_judgement-sound}

found : list_all is_found_same every_example ≡ true
found = refl

all : (es : List Example) → list_all is_found_same es ≡ true → All HoldsAtAll es
all [] h = All-nil HoldsAtAll
all (e ∷ es) h =
    let f = both (is_found_same e) (list_all is_found_same es) h in
    All-cons HoldsAtAll e es (λ v. same_judgement-sound v e.left e.right f.0) (all es f.1)

pub every_example-holds : All HoldsAtAll every_example
every_example-holds = all every_example found
