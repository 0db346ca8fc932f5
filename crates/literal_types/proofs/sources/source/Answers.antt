use Rattle.std.proofs.Common.{subst}
use Rattle.trees.specs.Language.{Ctx}
use Rattle.typed_nodes.specs.Typed.{Says}
use Rattle.literal_types.specs.Substitutions.{AreEntries}
use Rattle.literal_types.proofs.GrowthLaws.{extends_extends, entry_grows}
use Rattle.literal_types.proofs.WaitLaws.{pushed_one, none_left}
use Rattle.literal_types.proofs.sources.source.Goals as goal

pub base_context-requires : goal.base_context-requires
base_context-requires c =
    let (H, from) = c.requires in
    let (K, base, entries) = c.in_ok-base.ensures H from in
    (K, base)

pub loop-entry-init : goal.loop-entry-init
loop-entry-init c = record {
  extends = c.in_ok-ctx.ensures.extends;
  reached = λ H from.
      let (K, base, entries) = c.in_ok-base.ensures H from in
      (K, c.in_ok-ctx.ensures.typed K base, entries);
}

pub with_entry-requires : goal.with_entry-requires
with_entry-requires c =
    let (H, from) = c.requires in
    let l = c.loop-entry in
    let (K, says, entries) = l.invariant.reached H from in
    let order = pushed_one l.entries.items c.pop.new.self.items c.in-Some.entry c.in-Some.ensures.items in
    let (M, is, rest) = subst (λ es. AreEntries c.args.book.now es K H) order entries in
    (K, M, says, entry_grows c.in-Some.entry K M l.invariant.extends is)

pub returns-in_err-ctx-2-clause-extends : goal.returns-in_err-ctx-2-clause-extends
returns-in_err-ctx-2-clause-extends c = extends_extends c.loop-entry.invariant.extends c.in_err-ctx-2.ensures.extends

pub loop-entry-preserved : goal.loop-entry-preserved
loop-entry-preserved c = record {
  extends = extends_extends c.loop-entry.invariant.extends c.in_ok-ctx-2.ensures.extends;
  reached = λ H from.
      let l = c.loop-entry in
      let (K, says, entries) = l.invariant.reached H from in
      let order = pushed_one l.entries.items c.pop.new.self.items c.in-Some.entry c.in-Some.ensures.items in
      let (M, is, rest) = subst (λ es. AreEntries c.args.book.now es K H) order entries in
      (M, c.in_ok-ctx-2.ensures.typed K M says (entry_grows c.in-Some.entry K M l.invariant.extends is), rest);
}

pub returns-clause-typed : goal.returns-clause-typed
returns-clause-typed c = λ H from.
    let l = c.loop-entry in
    let (K, says, entries) = l.invariant.reached H from in
    let left = none_left l.entries.items l.entries.len l.entries.ok.0 c.in_default.ensures.cases.0 in
    subst (λ G. Says l.book l.ctx (Ctx G)) (subst (λ es. AreEntries c.args.book.now es K H) left entries) says
