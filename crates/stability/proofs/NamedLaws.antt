-- The trees of the table are those with names: their patterns have one normal term.
use Rattle.std.proofs.Common.{◌≡◌, [], ◌∷◌, refl}
use Rattle.trees.specs.Trees.{Tree}
use Rattle.trees.specs.Judgements.{trees}
use Rattle.trees.specs.Things.{ATree}
use Rattle.patterns.specs.Patterns.{Part, patterns}
use Rattle.patterns.specs.Values.{parts_of}
use Rattle.patterns.proofs.Soundness.{same_tree-sound}
use Rattle.rules.specs.Table.{motive_step, equiv, comp_pi, comp_sig, comp_path, comp_glue, comp_u}
use Rattle.stability.specs.Named.{named_step, named_equiv, named_pi, named_sig, named_path, named_glue, named_u}

pub steps : (P : Tree) → motive_step trees P ≡ named_step trees P
steps P =
    same_tree-sound (parts_of (ATree P ∷ [])) (motive_step patterns (Part 0)) (named_step patterns (Part 0)) refl

pub equivalences : (T A : Tree) → equiv trees T A ≡ named_equiv trees T A
equivalences T A =
    same_tree-sound (parts_of (ATree T ∷ ATree A ∷ [])) (equiv patterns (Part 0) (Part 1)) (named_equiv patterns (Part 0) (Part 1)) refl

pub functions : (A B p b a : Tree) → comp_pi trees A B p b a ≡ named_pi trees A B p b a
functions A B p b a =
    same_tree-sound (parts_of (ATree A ∷ ATree B ∷ ATree p ∷ ATree b ∷ ATree a ∷ [])) (comp_pi patterns (Part 0) (Part 1) (Part 2) (Part 3) (Part 4)) (named_pi patterns (Part 0) (Part 1) (Part 2) (Part 3) (Part 4)) refl

pub pairs : (A B p b a : Tree) → comp_sig trees A B p b a ≡ named_sig trees A B p b a
pairs A B p b a =
    same_tree-sound (parts_of (ATree A ∷ ATree B ∷ ATree p ∷ ATree b ∷ ATree a ∷ [])) (comp_sig patterns (Part 0) (Part 1) (Part 2) (Part 3) (Part 4)) (named_sig patterns (Part 0) (Part 1) (Part 2) (Part 3) (Part 4)) refl

pub paths : (A u v p b a : Tree) → comp_path trees A u v p b a ≡ named_path trees A u v p b a
paths A u v p b a =
    same_tree-sound (parts_of (ATree A ∷ ATree u ∷ ATree v ∷ ATree p ∷ ATree b ∷ ATree a ∷ [])) (comp_path patterns (Part 0) (Part 1) (Part 2) (Part 3) (Part 4) (Part 5)) (named_path patterns (Part 0) (Part 1) (Part 2) (Part 3) (Part 4) (Part 5)) refl

pub gluing : (A q T w p b a : Tree) → comp_glue trees A q T w p b a ≡ named_glue trees A q T w p b a
gluing A q T w p b a =
    same_tree-sound (parts_of (ATree A ∷ ATree q ∷ ATree T ∷ ATree w ∷ ATree p ∷ ATree b ∷ ATree a ∷ [])) (comp_glue patterns (Part 0) (Part 1) (Part 2) (Part 3) (Part 4) (Part 5) (Part 6)) (named_glue patterns (Part 0) (Part 1) (Part 2) (Part 3) (Part 4) (Part 5) (Part 6)) refl

pub universe : (p b a : Tree) → comp_u trees p b a ≡ named_u trees p b a
universe p b a =
    same_tree-sound (parts_of (ATree p ∷ ATree b ∷ ATree a ∷ [])) (comp_u patterns (Part 0) (Part 1) (Part 2)) (named_u patterns (Part 0) (Part 1) (Part 2)) refl
