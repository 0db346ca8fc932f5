-- What normalising a definition comes to.
use Rattle.std.proofs.Common.{◌≡◌, ◌<◌, ◌+◌, ◌*◌, ℕ, List, [], ◌∷◌, ◌++◌, length, slice_get, string_bytes, refl, sym, ◌∙◌, ap, subst, Option, Some, None, inl, inr}
use Rattle.trees.specs.Judgements.{Judgement, Nil}
use Rattle.trees.specs.Language.{TmEq}
use Rattle.trees.specs.Things.{both, consed}
use Rattle.side_conditions.specs.Shapes.{tree_of}
use Rattle.translation.specs.Translated.{judgements_of}
use Rattle.fixed_names.specs.Fixed.{none_fixed}
use Rattle.normal_parts.specs.Normal.{Normal}
use Rattle.normality.specs.Worlds.{fix_each}
use Rattle.tree_texts.specs.Show.{shown}
use Rattle.book.specs.Contents.{Contents}
use Rattle.book.specs.Shown.{book_concludes, book_means}
use Rattle.book.specs.declared.kernel.NodeId.{NodeId}
use Rattle.book_writer.specs.Written.{IsWritten, concluded_by}
use Rattle.stated_roots.specs.Equations.{EquatesClosed}
use Rattle.resolver.specs.declared.resolving.Codes.{Codes}
use Rattle.resolver.specs.Resolved.{defs_in}
use Rattle.linking.specs.Linked.{IsLinked}
use Rattle.module_texts.specs.Texts.{Text}
use Rattle.codes.specs.declared.code.CodeDef.{CodeDef}
use Rattle.outcomes.specs.declared.outcome.Outcome.{Outcome}
use Rattle.session.specs.declared.job.Job.{Job}
use Rattle.session.specs.declared.job.Job.TheVariants.{Tell, Store}
use Rattle.session.specs.Counted.{IsUncounted}
use Rattle.session.specs.Jobs.{told_by}
use Rattle.session.specs.declared.normal_command.Shown.{Shown}
use Rattle.session.specs.declared.normal_command.Normalised.TheVariants as normalised
use Rattle.session.specs.Loaded.{stated_by}
use Rattle.session.specs.Normals.{AreProved, Comes, ComesOf, IsNormalised, IsNormalText, IsShown, NormalJob, NotShown, not_stored, nameless, spent, not_taken}
use Rattle.session.specs.Places.{IsLastNamed}
use Rattle.session.specs.declared.normal_command.Normalised.{Normalised}
use Rattle.session.proofs.PlaceLaws.{called_inside}
use Rattle.session.proofs.NodeLaws.{concludes_at}
use Rattle.session.specs.Checks.{OtherJob}
use Rattle.session.proofs.CheckLaws.{other_uncounted, refused_uncounted}

not_shown_uncounted : (name part : List ℕ) (turns : ℕ) (texts : List Text) (defs : List CodeDef) (told : Outcome) → NotShown name part turns texts defs told → IsUncounted told
not_shown_uncounted name part turns texts defs told (not_stored is) = other_uncounted name turns texts defs (Tell told) is
not_shown_uncounted name part turns texts defs told (nameless proved last path path_is is) = subst IsUncounted (sym is) (λ counts. refl)
not_shown_uncounted name part turns texts defs told (spent proved k last is) = subst IsUncounted (sym is.is_told) (λ counts. refl)
not_shown_uncounted name part turns texts defs told (not_taken proved k last is) = refused_uncounted texts k told is

pub normal_uncounted : (name part : List ℕ) (turns : ℕ) (texts : List Text) (defs : List CodeDef) (job : Job) → NormalJob name part turns texts defs job → IsUncounted (told_by job)
normal_uncounted name part turns texts defs (Tell told) is = not_shown_uncounted name part turns texts defs told is
normal_uncounted name part turns texts defs (Store path bytes told) (inl is) = subst IsUncounted (sym is.is_told) (λ counts. refl)
normal_uncounted name part turns texts defs (Store path bytes told) (inr (inl is)) = subst IsUncounted (sym is.is_told) (λ counts. refl)
normal_uncounted name part turns texts defs (Store path bytes told) (inr (inr is)) = subst IsUncounted (sym is.is_told) (λ counts. refl)

-- definitions that are not all typed
pub of_other : (name part : List ℕ) (turns : ℕ) (texts : List Text) (defs : List CodeDef) (job : Job) → OtherJob name turns texts defs job → NormalJob name part turns texts defs job
of_other name part turns texts defs (Tell told) is = not_stored is
of_other name part turns texts defs (Store path bytes told) is = inr (inl is)

-- one node concludes one judgement
pub one_root : (b : Contents) (n : NodeId) (J : Judgement) → book_concludes b n.0 ≡ Some J → concluded_by b (n ∷ []) ≡ Some (J ∷ [])
one_root b n J e = ap (λ o. both consed o (Some [])) e

-- the row of the right side means it
pub tree_is : (b : Contents) (equation typing right : ℕ) (e : EquatesClosed b equation typing right) → tree_of (book_means b right) ≡ e.other
tree_is b equation typing right e = ap tree_of e.means

-- the text of the right side of an equation
pub text_of_equation : (b : Contents) (equation body right : ℕ) (e : EquatesClosed b equation body right) (text : List ℕ) → Normal (fix_each []) (tree_of (book_means b right))
    → text ≡ shown 0 (tree_of (book_means b right)) ++ 10 ∷ [] → IsNormalText b equation body text
text_of_equation b equation body right e text normal is =
    let same = tree_is b equation body right e in
    record {
      term = e.term;
      type = e.type;
      normal = e.other;
      typed = e.typed;
      equal = e.equal;
      is_normal = subst (Normal none_fixed) same normal;
      shown = is ∙ ap (λ t. shown 0 t ++ 10 ∷ []) same;
    }

-- what is shown of it, with its derivation
pub shows_text : (b : Contents) (equation body : ℕ) (s : Shown) (t : IsNormalText b equation body (string_bytes s.text)) (rows : ℕ) → IsWritten s.bytes.items rows (TmEq Nil t.term t.normal t.type ∷ []) → IsShown b body s
shows_text b equation body s t rows written = record {
  term = t.term;
  type = t.type;
  typed = t.typed;
  shows = record { normal = t.normal; is_normal = t.is_normal; shown = t.shown; rows = rows; written = written };
}

-- what comes of the definition that is named
pub comes_of : (defs : List CodeDef) (named : Option ℕ) (place : ℕ) (came : Normalised) → AreProved (judgements_of (stated_by defs)) → named ≡ Some place → ComesOf defs place came → Comes defs named came
comes_of defs named place (normalised.Shown s) proved is of = (proved, (place, is, of))
comes_of defs named place (normalised.Spent k) proved is of = (proved, (place, is, of))
comes_of defs named place (normalised.Unaligned k e) proved is of = (proved, (place, is, of))
comes_of defs named place (normalised.NotTaken k) proved is of = (proved, (place, is, of))
comes_of defs named place (normalised.NotTyped other) proved is of = absurd of
comes_of defs named place normalised.Nameless proved is of = absurd of

-- a place that a definition has is one of theirs
pub named_inside : (texts : List Text) (codes : Codes) → IsLinked texts codes → (name : List ℕ) (named : Option ℕ) → IsLastNamed texts name named → (k : ℕ) → named ≡ Some k → k < length (defs_in codes)
named_inside texts codes linked name None last k is = absurd (cc is)
named_inside texts codes linked name (Some j) last k is =
    let same : j ≡ k = cc in
    subst (λ n. n < length (defs_in codes)) same (called_inside texts codes linked j name last.0)

-- what is told of a definition that was not shown stands at the place of the one that is named
pub last_is : (texts : List Text) (name : List ℕ) (named : Option ℕ) (place k : ℕ) → IsLastNamed texts name named → named ≡ Some place → k ≡ place → IsLastNamed texts name (Some k)
last_is texts name named place k last is same = subst (IsLastNamed texts name) (is ∙ ap Some (sym same)) last

-- what is shown of the node of a definition's body
pub normalises : (b : Contents) (nodes : List NodeId) (Js : List Judgement) (number : ℕ) (body : NodeId) (s : Shown) → concluded_by b nodes ≡ Some Js → slice_get nodes (2 * number + 1) ≡ Some body → IsShown b body.0 s → IsNormalised Js number (string_bytes s.text) s.bytes.items
normalises b nodes Js number body s all there is = record {
  term = is.term;
  type = is.type;
  typed = sym (concludes_at b nodes Js (2 * number + 1) body all there) ∙ is.typed;
  shows = is.shows;
}
