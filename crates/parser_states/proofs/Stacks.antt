-- The last value of a list is the top of a stack.
use Rattle.std.proofs.Common.{◌≡◌, ◌∙◌, List, [], ◌∷◌, ◌++◌, map, ap}
use Rattle.std.specs.Prelude.{reverse}
use Rattle.std.proofs.lemmas.List.{map-append, reverse-append}
use Rattle.productions.specs.Machine as M
use Rattle.parser_states.specs.declared.state.Frame.{Frame}
use Rattle.parser_states.specs.declared.state.Inner.{Inner}
use Rattle.parser_states.specs.View.{frame_of, inner_of, inners_of, stack_of}

pushed : {A B : Type 0} (f : A → B) (xs : List A) (x : A) → reverse (map f (xs ++ x ∷ [])) ≡ f x ∷ reverse (map f xs)
pushed f xs x = ap reverse (map-append f xs (x ∷ [])) ∙ reverse-append (map f xs) (f x ∷ [])

pub stack_pushed : (fs : List Frame) (g : Frame) → stack_of (fs ++ g ∷ []) ≡ frame_of g ∷ stack_of fs
stack_pushed fs g = pushed frame_of fs g

pub inners_pushed : (fs : List Inner) (g : Inner) → inners_of (fs ++ g ∷ []) ≡ inner_of g ∷ inners_of fs
inners_pushed fs g = pushed inner_of fs g

-- what a pop took off
pub stack_popped : (before after : List Frame) (g : Frame) → before ≡ after ++ g ∷ [] → stack_of before ≡ frame_of g ∷ stack_of after
stack_popped before after g eq = ap stack_of eq ∙ stack_pushed after g

pub inners_popped : (before after : List Inner) (g : Inner) → before ≡ after ++ g ∷ [] → inners_of before ≡ inner_of g ∷ inners_of after
inners_popped before after g eq = ap inners_of eq ∙ inners_pushed after g
