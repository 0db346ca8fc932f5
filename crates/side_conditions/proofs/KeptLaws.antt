-- What is kept of contexts that were asked about, over other rows.
use Rattle.std.proofs.Common.{◌≡◌, ℕ, ◌<◌, ◌≤◌, Some, sym, ◌∙◌, ap, subst, arith}
use Rattle.std.proofs.lemmas.List.Elements.{All-weaker}
use Rattle.trees.specs.Things.{Thing, Meanings}
use Rattle.rows.specs.Views.{IsContext}
use Rattle.rows.specs.declared.views.CtxId.{CtxId}
use Rattle.side_conditions.specs.declared.asked.Asked.{Asked}
use Rattle.side_conditions.specs.declared.context_faces.ContextFaces.{ContextFaces}
use Rattle.side_conditions.specs.declared.deciding.SideConditions.{SideConditions}
use Rattle.side_conditions.specs.declared.reading.Detail.TheVariants as detail
use Rattle.side_conditions.specs.Levels.{indices}
use Rattle.side_conditions.specs.Readings.{AreFacesOf, IsValued}
use Rattle.side_conditions.specs.Contexts.{context_of}
use Rattle.side_conditions.specs.Held.{StandsFor}
use Rattle.side_conditions.specs.Kept.{IsAsked, KeepsBelow, StaysBelow}
use Rattle.side_conditions.proofs.RememberedLaws.{kept-as}

-- the row of the context means the same
stands-as : (f g : Meanings) (ctx : CtxId) (c : ContextFaces) → f ctx.0 ≡ g ctx.0 → StandsFor f ctx c → StandsFor g ctx c
stands-as f g ctx c e s = record {
  row_is = s.row_is;
  is_context = subst IsContext e s.is_context;
  names_are = s.names_are ∙ ap (λ o. indices (context_of o)) e;
  faces_are = subst (λ o. AreFacesOf (context_of o) c.faces.items) e s.faces_are;
  met_is = s.met_is;
}

pub stands-self : (f : Meanings) (ctx : CtxId) (c : ContextFaces) → StandsFor f ctx c → StandsFor f c.ctx c
stands-self f ctx c s = subst (λ x. StandsFor f x c) (sym s.row_is) s

pub stands-still : (f : Meanings) (ctx : CtxId) (old new : ContextFaces) → StandsFor f ctx old → StandsFor f old.ctx new → StandsFor f ctx new
stands-still f ctx old new s = subst (λ x. StandsFor f x new) s.row_is

-- the first rows mean the same
asked-as : (mark : ℕ) (f g : Meanings) (a : Asked) → ((k : ℕ) (x : Thing) → k < mark → f k ≡ Some x → g k ≡ Some x) → IsAsked f a → StaysBelow mark a → IsAsked g a
asked-as mark f g a same asked stays =
    let ctx = asked.stands.is_context in
    record {
      stands = stands-as f g a.faces.ctx a.faces (ctx.1 ∙ sym (same a.faces.ctx.0 _ stays.ctx ctx.1)) asked.stands;
      kinds = kept-as (IsValued detail.Kind) mark f g a.faces.names.items a.kinds same stays.kinds asked.kinds;
      values = kept-as (IsValued detail.Value) mark f g a.faces.names.items a.values same stays.values asked.values;
    }

pub keeps-as : (mark : ℕ) (f g : Meanings) (s : SideConditions) → ((k : ℕ) (x : Thing) → k < mark → f k ≡ Some x → g k ≡ Some x) → KeepsBelow mark f s → KeepsBelow mark g s
keeps-as mark f g s same keeps = record {
  each = All-weaker (λ a. IsAsked f a × StaysBelow mark a) (λ a. IsAsked g a × StaysBelow mark a)
      (λ a kept. (asked-as mark f g a same kept.0 kept.1, kept.1)) s.asked.items keeps.each;
}

-- more rows are the first
pub keeps-more : (mark more : ℕ) (f : Meanings) (s : SideConditions) → mark ≤ more → KeepsBelow mark f s → KeepsBelow more f s
keeps-more mark more f s le keeps = record {
  each = All-weaker (λ a. IsAsked f a × StaysBelow mark a) (λ a. IsAsked f a × StaysBelow more a)
      (λ a kept. (kept.0, further a kept.1)) s.asked.items keeps.each;
}
  where
    further : (a : Asked) → StaysBelow mark a → StaysBelow more a
    further a stays =
        let ctx = stays.ctx in
        let kinds = stays.kinds in
        let values = stays.values in
        record { ctx = omega arith; kinds = omega arith; values = omega arith }
