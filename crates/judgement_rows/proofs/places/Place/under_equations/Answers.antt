use Rattle.form_rows.proofs.RowLaws.{tree_of_is}
use Rattle.judgement_rows.proofs.PlaceLaws.{context_kept, hold_in}
use Rattle.judgement_rows.proofs.places.Place.under_equations.Goals as goal

pub under_face-requires-clause-context : goal.under_face-requires-clause-context
under_face-requires-clause-context g c =
    context_kept c.face.ensures.kept c.requires

pub under_face-requires-clause-face : goal.under_face-requires-clause-face
under_face-requires-clause-face g c =
    tree_of_is _ _ c.in_ok-face.ensures.tree

pub returns-clause-hold : goal.returns-clause-hold
returns-clause-hold g c =
    hold_in c.face.ensures.kept c.in_ok-face.ensures.tree c.under_face.ensures.kept c.in_ok-place.ensures.faced
