-- The rows that a row names mean something where the row does.
use Rattle.std.proofs.Common.{◌≡◌, [], Some}
use Rattle.std.specs.List.{All}
use Rattle.std.proofs.lemmas.List.Elements.{All-nil, All-cons}
use Rattle.trees.specs.Things.{Thing, Meanings, with_variable, with_a_name, with_a_face}
use Rattle.rows.specs.Views.{ctx_meaning, row_meaning, ctx_names}
use Rattle.rows.specs.declared.views.CtxRow.{CtxRow}
use Rattle.rows.specs.declared.views.CtxRow.TheVariants as ctx
use Rattle.rows.specs.declared.views.Row.{Row}
use Rattle.rows.specs.declared.views.Row.TheVariants as row
use Rattle.rows.proofs.OptionLaws.{one-some}
use Rattle.rows.proofs.MeaningLaws.{Mean, both-mean, sub_names-mean}
use Rattle.interned.specs.Names.{row_names}
use Rattle.interned.proofs.CodingLaws.{term_names-mean}

pub ctx_names-mean : (f : Meanings) (r : CtxRow) (x : Thing) → ctx_meaning f r ≡ Some x → All (Mean f) (ctx_names r)
ctx_names-mean f ctx.Nil x e = All-nil (Mean f)
ctx_names-mean f (ctx.Var G A) x e = both-mean f with_variable G.0 A.0 x e
ctx_names-mean f (ctx.Name G) x e = let o = one-some with_a_name (f G.0) x e in All-cons (Mean f) G.0 [] (o.first, o.first_is) (All-nil (Mean f))
ctx_names-mean f (ctx.Face G p) x e = both-mean f with_a_face G.0 p.0 x e

pub row_names-mean : (f : Meanings) (r : Row) (x : Thing) → row_meaning f r ≡ Some x → All (Mean f) (row_names r)
row_names-mean f (row.Term r) x e = term_names-mean f r x e
row_names-mean f (row.Subst r) x e = sub_names-mean f r x e
row_names-mean f (row.Context r) x e = ctx_names-mean f r x e
