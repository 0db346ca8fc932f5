-- What a file derives that is evidence, and what is printed of it.
use Rattle.std.specs.Prelude.{◌≡◌, ◌≢◌, ℕ, List, [], ◌∷◌, ◌++◌, codes, Option, Some, None}
use Rattle.trees.specs.Trees.{Tree}
use Rattle.trees.specs.Judgements.{Context, Judgement}
use Rattle.trees.specs.Language.{TyEq, TmEq}
use Rattle.tree_texts.specs.Show.{shown}
use Rattle.side_conditions.specs.Levels.{count_indices}
use Rattle.evidence.specs.Contexts.{IsNormalIn}
use Rattle.evidence.specs.Faces.{IsFaceText, line}

abbrev pub shown_in : Context → Tree → List ℕ
shown_in G = shown (count_indices G)

-- a type of a context is equal to this normal one, which is shown
pub record ShowsType (G : Context) (normal : Tree) (Js : List Judgement) (lines : List ℕ) :
    Type 0 where
  pub is_normal : IsNormalIn G normal
  pub type : Tree
  pub derived : Js ≡ TyEq G type normal ∷ []
  pub shown : lines ≡ line (codes "type: ") (shown_in G normal)

-- two types, or two terms of one type, are equal to these normal ones
pub data Equal (G : Context) (found wanted : Tree) : List Judgement → Type 0 where
  types : (S T : Tree) → Equal G found wanted (TyEq G S found ∷ TyEq G T wanted ∷ [])
  terms : (s t A B : Tree) → Equal G found wanted (TmEq G s found A ∷ TmEq G t wanted B ∷ [])

-- the line of a face, where there is one
abbrev pub ShowsFaceOf : Context → Option Tree → List ℕ → Type 0
ShowsFaceOf G None lines = lines ≡ []
ShowsFaceOf G (Some p) lines =
    (text : List ℕ) × IsFaceText G p text × (lines ≡ line (codes "face: ") text)

-- two trees of a context are equal to these normal ones, which differ and are shown
pub record ShowsTwo (face : Option Tree) (Js : List Judgement) (lines : List ℕ) : Type 0 where
  pub context : Context
  pub found : Tree
  pub wanted : Tree
  pub found_normal : IsNormalIn context found
  pub wanted_normal : IsNormalIn context wanted
  pub differ : found ≢ wanted
  pub derived : Equal context found wanted Js
  pub face_text : List ℕ
  pub face_shown : ShowsFaceOf context face face_text
  pub shown : lines ≡ face_text ++ (line (codes "found: ") (shown_in context found)
      ++ line (codes "wanted: ") (shown_in context wanted))
