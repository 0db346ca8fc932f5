-- What is found of definitions over a book.
use Rattle.std.specs.Prelude.{◌≡◌, List, [], ◌∷◌, Some, IsSome}
use Rattle.std.specs.List.{flat_map}
use Rattle.translation.specs.Translated.{judgements_of}
use Rattle.codes.specs.declared.code.CodeDef.{CodeDef}
use Rattle.book.specs.Contents.{Contents}
use Rattle.book.specs.declared.kernel.NodeId.{NodeId}
use Rattle.book_writer.specs.Written.{concluded_by}
use Rattle.typing_steps.specs.declared.state.Root.{Root}
use Rattle.direct.specs.Direct.{other_place}
use Rattle.session.specs.declared.found.Found.{Found}
use Rattle.session.specs.declared.found.Found.TheVariants as found
use Rattle.session.specs.Loaded.{stated_by}

-- the nodes of what definitions state, in order
abbrev pub nodes_of : List Root → List NodeId
nodes_of = flat_map (λ r. r.ty ∷ r.body ∷ [])

-- one of them is not direct
abbrev pub AreNotDirect : List CodeDef → Type 0
AreNotDirect defs = IsSome (other_place defs [])

-- These nodes conclude what they state; or one is not direct, and this is the first.
abbrev pub IsFound : Contents → List CodeDef → Found → Type 0
IsFound b defs (found.Stated nodes) =
    concluded_by b nodes.items ≡ Some (judgements_of (stated_by defs))
IsFound b defs (found.Other first reason) = other_place defs [] ≡ Some first
