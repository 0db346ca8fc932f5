use Rattle.std.proofs.Common.{reverse, refl, sym, subst, ap}
use Rattle.literal_types.specs.Substitutions.{IsEntry}
use Rattle.literal_types.proofs.WaitLaws.{pushed_one}
use Rattle.literal_types.proofs.JoinLaws.{Reached, reached_past, reached_first, reached_pushed, reached_formula, reached_on_face}
use Rattle.literal_types.proofs.sources.base_of_source.Goals as goal

pub loop-ctx-init : goal.loop-ctx-init
loop-ctx-init c = record {
  reached = λ H from.
      subst (λ es. Reached c.args.book.now c.args.sub es H) (sym (ap reverse c.requires.none)) (record { home = H; from = from; entries = refl });
}

pub unfolded-requires : goal.unfolded-requires
unfolded-requires c =
    let (H, from) = c.requires.from in
    let r = c.loop-ctx.invariant.reached H from in
    (r.home, r.from)

pub loop-ctx-preserved-in-Past : goal.loop-ctx-preserved-in-Past
loop-ctx-preserved-in-Past c = record {
  reached = λ H from.
      let r = c.loop-ctx.invariant.reached H from in
      let order = pushed_one c.push.new.self.items c.loop-ctx.entries.items c.in-Past.entry c.in_ok-push-in-Past.ensures.items in
      subst (λ es. Reached c.args.book.now c.in-Past.below es H) (sym order) (reached_past r c.in-Past.below c.in-Past.entry (c.in-Past.ensures.unfolds r.home r.from.target r.from.sub r.from.says));
}

pub loop-ctx-preserved-in-Composite : goal.loop-ctx-preserved-in-Composite
loop-ctx-preserved-in-Composite c = record {
  reached = λ H from.
      let r = c.loop-ctx.invariant.reached H from in
      reached_first r c.in-Composite.below c.in-Composite.field-1 (c.in-Composite.ensures.unfolds r.home r.from.target r.from.sub r.from.says);
}

pub loop-ctx-preserved-in-Pushed : goal.loop-ctx-preserved-in-Pushed
loop-ctx-preserved-in-Pushed c = record {
  reached = λ H from.
      let r = c.loop-ctx.invariant.reached H from in
      reached_pushed r c.in-Pushed.below c.in-Pushed.field-1 (c.in-Pushed.ensures.unfolds r.home r.from.target r.from.sub r.from.says);
}

pub loop-ctx-preserved-in-Formula : goal.loop-ctx-preserved-in-Formula
loop-ctx-preserved-in-Formula c = record {
  reached = λ H from.
      let r = c.loop-ctx.invariant.reached H from in
      reached_formula r c.in-Formula.below (c.in-Formula.ensures.unfolds r.home r.from.target r.from.sub r.from.says);
}

pub loop-ctx-preserved : goal.loop-ctx-preserved
loop-ctx-preserved c = record {
  reached = λ H from.
      let r = c.loop-ctx.invariant.reached H from in
      reached_on_face r c.in-OnFace.below (c.in-OnFace.ensures.unfolds r.home r.from.target r.from.sub r.from.says);
}

pub returns-in-Identity : goal.returns-in-Identity
returns-in-Identity c = λ H from.
    let r = c.loop-ctx.invariant.reached H from in
    let u = c.in-Identity.ensures.unfolds r.home r.from.target r.from.sub r.from.says in
    (r.home, u.2, r.entries)

pub returns-in-Variable : goal.returns-in-Variable
returns-in-Variable c = λ H from.
    let r = c.loop-ctx.invariant.reached H from in
    let (L, e, says, is, under) = c.in-Past.ensures.unfolds r.home r.from.target r.from.sub r.from.says in
    let (A, typed, home) = subst (λ x. IsEntry c.args.book.now x L r.home) c.in-Variable.is is in
    (r.home, (L, A, typed, home), r.entries)
