use Rattle.std.proofs.Common.{◌<◌, refl, arith}
use Rattle.trees.specs.Language.{Sb}
use Rattle.theory.specs.declared.rule.ContextRule.TheVariants as rule
use Rattle.literal_types.proofs.StepLaws.{all_at}
use Rattle.literal_types.proofs.WeightLaws.{some_weight, one_earlier, two_earlier}
use Rattle.literal_types.proofs.RuleLaws.{by_contexts, no_contexts, no_more, above, one_above, two_variable, three_pushed, two_composite, four_parts, unfolds_identity, unfolds_variable, unfolds_name, unfolds_face, unfolds_pushed, unfolds_formula, unfolds_on_face, unfolds_composite}
use Rattle.literal_types.proofs.substitutions.unfolded.Goals as goal

pub unreachable-requires : goal.unreachable-requires
unreachable-requires c =
    let (M, from) = c.requires in
    by_contexts c.args.book.now c.step-row.result.rule c.step-row.result.parts.now c.step-row.result.premises.now M from.sub from.target (c.step-row.ensures.right (Sb M from.sub from.target) from.says)
    (no_contexts c.step-row.result.rule c.in_default.not-Contexts)

pub number_at-requires : goal.number_at-requires
number_at-requires c =
    let (M, from) = c.requires in
    one_above c.in-Contexts.rule (above c.args.book.now c.step-row.result.rule c.in-Contexts.rule c.in-Contexts.rule c.step-row.result.parts.now c.step-row.result.premises.now M from.sub from.target c.in-Contexts.is refl (c.step-row.ensures.right (Sb M from.sub from.target) from.says))

pub unreachable-requires-in_default-rule : goal.unreachable-requires-in_default-rule
unreachable-requires-in_default-rule c =
    let (M, from) = c.requires in
    let n = c.in_default-rule in
    no_more c.in-Contexts.rule (above c.args.book.now c.step-row.result.rule c.in-Contexts.rule c.in-Contexts.rule c.step-row.result.parts.now c.step-row.result.premises.now M from.sub from.target c.in-Contexts.is refl (c.step-row.ensures.right (Sb M from.sub from.target) from.says)) n.not-SubId n.not-SubWk n.not-SubWkName n.not-SubWkFace n.not-SubVar n.not-SubForm n.not-SubFace n.not-SubComp

pub number_at-requires-in-SubWk : goal.number_at-requires-in-SubWk
number_at-requires-in-SubWk c =
    let (M, from) = c.requires in
    two_variable (above c.args.book.now c.step-row.result.rule c.in-Contexts.rule rule.SubWk c.step-row.result.parts.now c.step-row.result.premises.now M from.sub from.target c.in-Contexts.is c.in-SubWk.is (c.step-row.ensures.right (Sb M from.sub from.target) from.says))

pub number_at-face-requires : goal.number_at-face-requires
number_at-face-requires c =
    let (M, from) = c.requires in
    four_parts (above c.args.book.now c.step-row.result.rule c.in-Contexts.rule rule.SubWkFace c.step-row.result.parts.now c.step-row.result.premises.now M from.sub from.target c.in-Contexts.is c.in-SubWkFace.is (c.step-row.ensures.right (Sb M from.sub from.target) from.says))

pub number_at-requires-in-SubVar : goal.number_at-requires-in-SubVar
number_at-requires-in-SubVar c =
    let (M, from) = c.requires in
    three_pushed (above c.args.book.now c.step-row.result.rule c.in-Contexts.rule rule.SubVar c.step-row.result.parts.now c.step-row.result.premises.now M from.sub from.target c.in-Contexts.is c.in-SubVar.is (c.step-row.ensures.right (Sb M from.sub from.target) from.says))

pub number_at-requires-in-SubComp : goal.number_at-requires-in-SubComp
number_at-requires-in-SubComp c =
    let (M, from) = c.requires in
    two_composite (above c.args.book.now c.step-row.result.rule c.in-Contexts.rule rule.SubComp c.step-row.result.parts.now c.step-row.result.premises.now M from.sub from.target c.in-Contexts.is c.in-SubComp.is (c.step-row.ensures.right (Sb M from.sub from.target) from.says))

pub returns-in-SubId-clause-unfolds : goal.returns-in-SubId-clause-unfolds
returns-in-SubId-clause-unfolds c = λ M K d says.
    unfolds_identity c.number_at.result (above c.args.book.now c.step-row.result.rule c.in-Contexts.rule rule.SubId c.step-row.result.parts.now c.step-row.result.premises.now M d K c.in-Contexts.is c.in-SubId.is (c.step-row.ensures.right (Sb M d K) says)) c.number_at.ensures

pub returns-in-SubId-clause-less : goal.returns-in-SubId-clause-less
returns-in-SubId-clause-less c = some_weight c.args.node

pub returns-in-SubWk-clause-unfolds : goal.returns-in-SubWk-clause-unfolds
returns-in-SubWk-clause-unfolds c = λ M K d says.
    unfolds_variable c.number_at.result c.number_at-in-SubWk.result (above c.args.book.now c.step-row.result.rule c.in-Contexts.rule rule.SubWk c.step-row.result.parts.now c.step-row.result.premises.now M d K c.in-Contexts.is c.in-SubWk.is (c.step-row.ensures.right (Sb M d K) says)) c.number_at.ensures c.number_at-in-SubWk.ensures

pub returns-in-SubWk-clause-less : goal.returns-in-SubWk-clause-less
returns-in-SubWk-clause-less c = one_earlier (record { 0 = c.number_at.result }) c.args.node (all_at (λ k. k < c.args.node.0) c.step-row.result.premises.now 0 c.number_at.result c.step-row.ensures.earlier c.number_at.ensures)

pub returns-in-SubWkName-clause-unfolds : goal.returns-in-SubWkName-clause-unfolds
returns-in-SubWkName-clause-unfolds c = λ M K d says.
    unfolds_name c.number_at.result (above c.args.book.now c.step-row.result.rule c.in-Contexts.rule rule.SubWkName c.step-row.result.parts.now c.step-row.result.premises.now M d K c.in-Contexts.is c.in-SubWkName.is (c.step-row.ensures.right (Sb M d K) says)) c.number_at.ensures

pub returns-in-SubWkName-clause-less : goal.returns-in-SubWkName-clause-less
returns-in-SubWkName-clause-less c = one_earlier (record { 0 = c.number_at.result }) c.args.node (all_at (λ k. k < c.args.node.0) c.step-row.result.premises.now 0 c.number_at.result c.step-row.ensures.earlier c.number_at.ensures)

pub returns-in-SubWkFace-clause-unfolds : goal.returns-in-SubWkFace-clause-unfolds
returns-in-SubWkFace-clause-unfolds c = λ M K d says.
    unfolds_face c.number_at.result c.number_at-face.result (above c.args.book.now c.step-row.result.rule c.in-Contexts.rule rule.SubWkFace c.step-row.result.parts.now c.step-row.result.premises.now M d K c.in-Contexts.is c.in-SubWkFace.is (c.step-row.ensures.right (Sb M d K) says)) c.number_at.ensures c.number_at-face.ensures

pub returns-in-SubWkFace-clause-less : goal.returns-in-SubWkFace-clause-less
returns-in-SubWkFace-clause-less c = one_earlier (record { 0 = c.number_at.result }) c.args.node (all_at (λ k. k < c.args.node.0) c.step-row.result.premises.now 0 c.number_at.result c.step-row.ensures.earlier c.number_at.ensures)

pub returns-in-SubVar-clause-unfolds : goal.returns-in-SubVar-clause-unfolds
returns-in-SubVar-clause-unfolds c = λ M K d says.
    unfolds_pushed c.number_at.result c.number_at-in-SubVar.result (above c.args.book.now c.step-row.result.rule c.in-Contexts.rule rule.SubVar c.step-row.result.parts.now c.step-row.result.premises.now M d K c.in-Contexts.is c.in-SubVar.is (c.step-row.ensures.right (Sb M d K) says)) c.number_at.ensures c.number_at-in-SubVar.ensures

pub returns-in-SubVar-clause-less : goal.returns-in-SubVar-clause-less
returns-in-SubVar-clause-less c =
    two_earlier (record { 0 = c.number_at.result }) (record { 0 = c.number_at-in-SubVar.result }) c.args.node
    (all_at (λ k. k < c.args.node.0) c.step-row.result.premises.now 0 c.number_at.result c.step-row.ensures.earlier c.number_at.ensures)
    (all_at (λ k. k < c.args.node.0) c.step-row.result.premises.now 2 c.number_at-in-SubVar.result c.step-row.ensures.earlier c.number_at-in-SubVar.ensures)

pub returns-in-SubForm-clause-unfolds : goal.returns-in-SubForm-clause-unfolds
returns-in-SubForm-clause-unfolds c = λ M K d says.
    unfolds_formula c.number_at.result (above c.args.book.now c.step-row.result.rule c.in-Contexts.rule rule.SubForm c.step-row.result.parts.now c.step-row.result.premises.now M d K c.in-Contexts.is c.in-SubForm.is (c.step-row.ensures.right (Sb M d K) says)) c.number_at.ensures

pub returns-in-SubForm-clause-less : goal.returns-in-SubForm-clause-less
returns-in-SubForm-clause-less c =
    let less = one_earlier (record { 0 = c.number_at.result }) c.args.node (all_at (λ k. k < c.args.node.0) c.step-row.result.premises.now 0 c.number_at.result c.step-row.ensures.earlier c.number_at.ensures) in
    omega (arith, less)

pub returns-in-SubFace-clause-unfolds : goal.returns-in-SubFace-clause-unfolds
returns-in-SubFace-clause-unfolds c = λ M K d says.
    unfolds_on_face c.number_at.result (above c.args.book.now c.step-row.result.rule c.in-Contexts.rule rule.SubFace c.step-row.result.parts.now c.step-row.result.premises.now M d K c.in-Contexts.is c.in-SubFace.is (c.step-row.ensures.right (Sb M d K) says)) c.number_at.ensures

pub returns-in-SubFace-clause-less : goal.returns-in-SubFace-clause-less
returns-in-SubFace-clause-less c =
    let less = one_earlier (record { 0 = c.number_at.result }) c.args.node (all_at (λ k. k < c.args.node.0) c.step-row.result.premises.now 0 c.number_at.result c.step-row.ensures.earlier c.number_at.ensures) in
    omega (arith, less)

pub returns-in-SubComp-clause-unfolds : goal.returns-in-SubComp-clause-unfolds
returns-in-SubComp-clause-unfolds c = λ M K d says.
    unfolds_composite c.number_at.result c.number_at-in-SubComp.result (above c.args.book.now c.step-row.result.rule c.in-Contexts.rule rule.SubComp c.step-row.result.parts.now c.step-row.result.premises.now M d K c.in-Contexts.is c.in-SubComp.is (c.step-row.ensures.right (Sb M d K) says)) c.number_at.ensures c.number_at-in-SubComp.ensures

pub returns-in-SubComp-clause-less : goal.returns-in-SubComp-clause-less
returns-in-SubComp-clause-less c =
    two_earlier (record { 0 = c.number_at.result }) (record { 0 = c.number_at-in-SubComp.result }) c.args.node
    (all_at (λ k. k < c.args.node.0) c.step-row.result.premises.now 0 c.number_at.result c.step-row.ensures.earlier c.number_at.ensures)
    (all_at (λ k. k < c.args.node.0) c.step-row.result.premises.now 1 c.number_at-in-SubComp.result c.step-row.ensures.earlier c.number_at-in-SubComp.ensures)
