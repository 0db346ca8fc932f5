-- What the names and faces stand for that are held of a context.
use Rattle.std.specs.Prelude.{◌≡◌, IfSome}
use Rattle.trees.specs.Things.{Meanings}
use Rattle.rows.specs.Views.{IsContext}
use Rattle.rows.specs.declared.views.CtxId.{CtxId}
use Rattle.side_conditions.specs.declared.context_faces.ContextFaces.{ContextFaces}
use Rattle.side_conditions.specs.Levels.{indices}
use Rattle.side_conditions.specs.Readings.{AreFacesOf}
use Rattle.side_conditions.specs.Contexts.{context_of, IsMeetOf}

-- they are the names and the faces of the context of that row
pub record StandsFor (f : Meanings) (ctx : CtxId) (c : ContextFaces) : Type 0 where
  pub row_is : c.ctx ≡ ctx
  pub is_context : IsContext (f ctx.0)
  pub names_are : c.names.items ≡ indices (context_of (f ctx.0))
  pub faces_are : AreFacesOf (context_of (f ctx.0)) c.faces.items
  pub met_is : IfSome c.met (IsMeetOf c.faces.items)
