-- A replay has one answer, also where it is one of a module.
use Rattle.std.proofs.Common.{◌≡◌, ◌≢◌, ℕ, List, [], ◌∷◌, slice_get, sym, ◌∙◌, ap, subst, Option, Some, None}
use Rattle.std.specs.Prelude.{string_bytes, String}
use Rattle.std.specs.declared.alloc.Global.{Global}
use Rattle.host_io.specs.Files.{Held}
use Rattle.translation.specs.declared.fault.ScopeFault.{ScopeFault}
use Rattle.translation.specs.declared.fault.ScopeFault.TheVariants as scope
use Rattle.trees.specs.Judgements.{Judgement}
use Rattle.module_texts.specs.Texts.{Text, path_of}
use Rattle.loading.specs.declared.text.LoadFault.{LoadFault}
use Rattle.loading.specs.declared.text.LoadFault.TheVariants as load
use Rattle.loading.specs.Same.{IsDecided}
use Rattle.loading.proofs.LoadLaws.{loads_one, refuses_one, not_both}
use Rattle.linking.specs.Modules.{AreFine, RefusedFirst, judgements, meanings}
use Rattle.outcomes.specs.declared.outcome.Outcome.{Outcome}
use Rattle.outcomes.specs.declared.outcome.Outcome.TheVariants as outcome
use Rattle.outcomes.specs.Refusals.{told_load, told_scope}
use Rattle.session.specs.Modules.{AreLoaded, NotLoaded, NotResolved, Spells}
use Rattle.outcomes.proofs.ToldLaws.{SameAnswer, load_told, scope_told}
use Rattle.session.specs.Answers.{IsReplayed, MayReplayOf, not_loaded, not_resolved, replayed, OneAnswer}
use Rattle.session.proofs.ModuleLaws.{fine_or_refused, refused_once, IsOfText}
use Rattle.session.proofs.ExclusionLemmas.{replayed_one}

decided : (f : LoadFault) (told : Outcome) → told_load f ≡ Some told → told ≢ outcome.ReadFault → IsDecided f
decided (load.Missing p) told e n = tt
decided load.Unreadable told e n = n (let h : outcome.ReadFault ≡ told = cc in sym h)
decided (load.NoTokens f p) told e n = tt
decided (load.NoModule f p) told e n = tt
decided (load.Cycle p) told e n = tt
decided (load.TooMany p) told e n = tt
decided load.Memory told e n = cc

pub of_text : (f : ScopeFault) (path : String Global) (told : Outcome) → told_scope f (Some path) ≡ Some told → IsOfText f
of_text (scope.Unbound p) path told e = tt
of_text (scope.Twice p) path told e = tt
of_text (scope.NameKind p) path told e = tt
of_text (scope.GlueSide p) path told e = tt
of_text scope.Memory path told e = cc

-- one of the three ways, in one way
module _ (held : Held) (name : List ℕ) (one other : Outcome) (n : one ≢ outcome.ReadFault) (n' : other ≢ outcome.ReadFault) where
  pub loaded_one : (xs ys : List Text) → AreLoaded (Some held) name xs → AreLoaded (Some held) name ys → xs ≡ ys
  loaded_one xs ys a b = loads_one held [] [] (name ∷ []) xs ys a b

  pub loaded_or_not : (xs : List Text) (told : Outcome) → told ≢ outcome.ReadFault → AreLoaded (Some held) name xs → NotLoaded (Some held) name told → ⊥
  loaded_or_not xs told m a b = not_both held [] [] (name ∷ []) xs b.fault a b.refuses (decided b.fault told b.is_told m)

  pub both_not_loaded : NotLoaded (Some held) name one → NotLoaded (Some held) name other → SameAnswer one other
  both_not_loaded a b =
      let f = decided a.fault one a.is_told n in
      let g = decided b.fault other b.is_told n' in
      load_told a.fault b.fault one other (refuses_one held [] [] (name ∷ []) a.fault b.fault a.refuses b.refuses f g) n a.is_told b.is_told

  pub both_not_resolved : NotResolved (Some held) name one → NotResolved (Some held) name other → SameAnswer one other
  both_not_resolved a b =
      let s = loaded_one a.texts b.texts a.loaded b.loaded in
      let first = subst (λ xs. RefusedFirst xs a.at a.fault) s a.refuses in
      let r = refused_once b.texts a.at b.at a.fault b.fault first b.refuses (of_text a.fault a.path one a.is_told) (of_text b.fault b.path other b.is_told) in
      let here = subst (λ i. slice_get b.texts i ≡ Some a.refused) r.0 (subst (λ xs. slice_get xs a.at ≡ Some a.refused) s a.refused_is) in
      let found : Some a.refused ≡ Some b.refused = sym here ∙ b.refused_is in
      let same : a.refused ≡ b.refused = cc in
      let path : string_bytes a.path ≡ string_bytes b.path = a.path_is ∙ ap (λ (x : Text). path_of x.name) same ∙ sym b.path_is in
      scope_told b.fault a.path b.path one other path (subst (λ f. told_scope f (Some a.path) ≡ Some one) r.1 a.is_told) b.is_told

  spelt_one : (Js Ks : List Judgement) → Spells (Some held) name Js → Spells (Some held) name Ks → Js ≡ Ks
  spelt_one Js Ks a b = a.spelt ∙ ap judgements (loaded_one a.texts b.texts a.loaded b.loaded) ∙ sym b.spelt

  spelt_or_refused : (Js : List Judgement) (told : Outcome) → Spells (Some held) name Js → NotResolved (Some held) name told → ⊥
  spelt_or_refused Js told a b =
      let fine = subst (λ xs. AreFine (meanings xs)) (loaded_one a.texts b.texts a.loaded b.loaded) a.fine in
      fine_or_refused b.texts b.at b.fault fine b.refuses (of_text b.fault b.path told b.is_told)

  pub of_module : (path : List ℕ) → MayReplayOf (Some held) path name one → MayReplayOf (Some held) path name other → SameAnswer one other
  of_module path (not_loaded a) (not_loaded b) = both_not_loaded a b
  of_module path (not_loaded a) (not_resolved b) = absurd (loaded_or_not b.texts one n b.loaded a)
  of_module path (not_loaded a) (replayed Ks b r) = absurd (loaded_or_not b.texts one n b.loaded a)
  of_module path (not_resolved a) (not_loaded b) = absurd (loaded_or_not a.texts other n' a.loaded b)
  of_module path (not_resolved a) (not_resolved b) = both_not_resolved a b
  of_module path (not_resolved a) (replayed Ks b r) = absurd (spelt_or_refused Ks one b a)
  of_module path (replayed Js a r) (not_loaded b) = absurd (loaded_or_not a.texts other n' a.loaded b)
  of_module path (replayed Js a r) (not_resolved b) = absurd (spelt_or_refused Js other a b)
  of_module path (replayed Js a r) (replayed Ks b s) =
      replayed_one held path (Some Ks) one other n n' (subst (λ Ls. IsReplayed (Some held) path (Some Ls) one) (spelt_one Js Ks a b) r) s

pub one_answer : OneAnswer
one_answer path None held one other n n' a b = replayed_one held path None one other n n' a b
one_answer path (Some name) held one other n n' a b = of_module held name one other n n' path a b
