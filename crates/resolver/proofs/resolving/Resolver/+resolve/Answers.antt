use Rattle.std.proofs.Common.{◌∷◌, ◌++◌, map, codes, [], refl, sym, ap, ◌∙◌, subst, arith}
use Rattle.codes.specs.declared.code.CodeDef.{out-CodeDef}
use Rattle.resolved_forms.specs.Shaped.{IsLine, IsMotive}
use Rattle.resolved_forms.specs.Spelt.{plain_of, words_of}
use Rattle.translation.specs.Terms.{lam, pi, sig, universe}
use Rattle.translation.specs.Forms.{all, project}
use Rattle.translation.specs.Texts.{equations, word}
use Rattle.scopes.specs.declared.names.Binding.TheVariants as binding
use Rattle.resolved_forms.proofs.Spelling.{let_is, lambda_is, path_lambda_is, pi_is, sigma_is, arrow_is, named_is, applied_is, path_type_is, comp_is, fill_is, transport_is, glue_type_is, glue_term_is, unglue_is, project_is, universe_is, name_is, brackets_is}
use Rattle.resolved_forms.proofs.FormLaws.{answered, text_is, answer_is, name_answered, plain_resolves, no_pair_resolves, let_resolves, under_resolves, path_lambda_resolves, arrow_resolves, application_resolves, path_type_resolves, comp_resolves, fill_resolves, transport_resolves, glue_type_resolves, glue_term_resolves, pair_resolves, unglue_resolves, project_resolves, universe_resolves, tuple_resolves}
use Rattle.resolved_forms.proofs.Steps.{one_more, names_more, argument_element, at_element, exps_none, exps_more, elements_none, elements_more, sides_none, sides_more, line_sides_none, line_sides_more, pair_sides_none, pair_sides_more, binders_none, binders_more, block_none, block_more}
use Rattle.resolved_forms.proofs.Slices.{none}
use Rattle.resolved_forms.proofs.Openings.{applied_line, applied_motive, written_line, written_motive}
use Rattle.resolved_forms.proofs.Applied.{leading_none, leading_more, suc_named, natrec_named}
use Rattle.resolver.proofs.Answered.{few_named, four_arguments, made_answers, defined_names, line_spelt, motive_spelt, opened_fits, other_named, pair_answer_is, pair_refused, pair_spelt}
use Rattle.codes.specs.Shapes.{shape}
use Rattle.resolved_forms.proofs.Definitions.{def_resolves}
use Rattle.resolved_forms.specs.Spelt.{motive_of}
use Rattle.scopes.specs.Finding.{find}
use Rattle.scopes.specs.declared.names.Found.TheVariants as found
use Rattle.translation.specs.declared.built_in.BuiltIn.TheVariants as built_in
use Rattle.resolved_forms.proofs.Shaping.{made, under_names, line_at, named_term, universe_term, name_term, brackets_term, tuple_spelt, suc_applied, natrec_applied, argument_spelt, at_spelt, def_spelt, terms_spelt_none, terms_spelt_more, elements_spelt_none, elements_spelt_more, binders_spelt_none, binders_spelt_more, defs_spelt_none, defs_spelt_more, sides_spelt_none, sides_spelt_more, line_sides_spelt_none, line_sides_spelt_more, pair_sides_spelt_none, pair_sides_spelt_more, term_among, line_among, pair_among, element_among, terms_among, elements_among, sides_among, line_sides_among, pair_sides_among, names_bound, first_bound, equations_among, applied_term, plain_made, few_applied, other_applied}
use Rattle.resolved_forms.proofs.TextTrees.{let_tree, lambda_tree, pi_tree, sigma_tree, path_lambda_tree, arrow_tree, apply_tree, path_type_tree, comp_tree, fill_tree, transport_tree, glue_type_tree, glue_term_tree, unglue_tree, project_tree}
use Rattle.resolver.proofs.resolving.Resolver.+resolve.Goals as goal

-- texts that bind names

pub let_in-returns-clause-resolves : goal.let_in-returns-clause-resolves
let_in-returns-clause-resolves t c =
    let bytes = c.args.self.now.names.bytes.now in
    answered c.let_in.result c.let_in.ensures.means
    (text_is (let_is bytes c.in-Let.span c.in-Let.defs c.in-Let.body c.in-Let.is c.as_slice.ensures c.deref.ensures)
    (let_resolves bytes _ _ _ _ c.mark-mark.ensures c.in_ok-locals.ensures.opens c.in_ok-body.ensures.resolves c.cut.ensures))

pub lambda-returns-clause-resolves : goal.lambda-returns-clause-resolves
lambda-returns-clause-resolves t c =
    let bytes = c.args.self.now.names.bytes.now in
    answered c.lambda.result c.lambda.ensures.means
    (text_is (lambda_is bytes c.in-Lambda.span c.in-Lambda.teles c.in-Lambda.body c.in-Lambda.is c.as_slice.ensures c.deref.ensures)
    (under_resolves lam bytes _ _ _ _ c.mark-mark.ensures c.in_ok-binders.ensures.resolves c.in_ok-body.ensures.resolves c.cut.ensures))

pub path_lambda-returns-clause-resolves : goal.path_lambda-returns-clause-resolves
path_lambda-returns-clause-resolves t c =
    let bytes = c.args.self.now.names.bytes.now in
    answered c.path_lambda.result c.path_lambda.ensures.means
    (text_is (path_lambda_is bytes c.in-PathLambda.span c.in-PathLambda.names c.in-PathLambda.body c.in-PathLambda.is c.as_slice-names.ensures c.deref.ensures)
    (path_lambda_resolves bytes c.as_slice-names.result.now _ _ c.mark-mark.ensures refl c.in_ok-bind_all.ensures c.in_ok-body.ensures.resolves c.cut.ensures))

pub pi-returns-clause-resolves : goal.pi-returns-clause-resolves
pi-returns-clause-resolves t c =
    let bytes = c.args.self.now.names.bytes.now in
    answered c.pi.result c.pi.ensures.means
    (text_is (pi_is bytes c.in-Pi.span c.in-Pi.teles c.in-Pi.body c.in-Pi.is c.as_slice.ensures c.deref.ensures)
    (under_resolves pi bytes _ _ _ _ c.mark-mark.ensures c.in_ok-binders.ensures.resolves c.in_ok-body.ensures.resolves c.cut.ensures))

pub sigma-returns-clause-resolves : goal.sigma-returns-clause-resolves
sigma-returns-clause-resolves t c =
    let bytes = c.args.self.now.names.bytes.now in
    answered c.sigma.result c.sigma.ensures.means
    (text_is (sigma_is bytes c.in-Sigma.span c.in-Sigma.teles c.in-Sigma.body c.in-Sigma.is c.as_slice.ensures c.deref.ensures)
    (under_resolves sig bytes _ _ _ _ c.mark-mark.ensures c.in_ok-binders.ensures.resolves c.in_ok-body.ensures.resolves c.cut.ensures))

pub arrow-returns-clause-resolves : goal.arrow-returns-clause-resolves
arrow-returns-clause-resolves t c =
    let bytes = c.args.self.now.names.bytes.now in
    answered c.arrow.result c.arrow.ensures.means
    (text_is (arrow_is bytes c.in-Arrow.span c.in-Arrow.from c.in-Arrow.to c.in-Arrow.is c.deref.ensures c.deref-2.ensures)
    (arrow_resolves bytes _ _ _ _ c.mark-mark.ensures c.in_ok-from.ensures.resolves c.in_ok-bind.ensures.ok c.in_ok-to.ensures.resolves c.cut.ensures))

-- types of paths, and compositions

pub path_type-returns-clause-resolves : goal.path_type-returns-clause-resolves
path_type-returns-clause-resolves t c =
    let bytes = c.args.self.now.names.bytes.now in
    answered c.path_type.result c.path_type.ensures.means
    (text_is (path_type_is bytes c.in-PathP.span c.in-PathP.line c.in-PathP.left c.in-PathP.right c.in-PathP.is c.deref-2.ensures c.deref-3.ensures c.deref-4.ensures)
    (path_type_resolves bytes _ _ _ _ _ _ c.in_ok-line.ensures.resolves c.in_ok-left.ensures.resolves c.in_ok-right.ensures.resolves))

pub comp-returns-clause-resolves : goal.comp-returns-clause-resolves
comp-returns-clause-resolves t c =
    let bytes = c.args.self.now.names.bytes.now in
    answered c.comp.result c.comp.ensures.means
    (text_is (comp_is bytes c.in-Comp.span c.in-Comp.line c.in-Comp.base c.in-Comp.sides c.in-Comp.is c.deref-2.ensures c.deref-3.ensures c.as_slice.ensures)
    (comp_resolves bytes _ _ _ _ _ _ c.in_ok-line.ensures.resolves c.in_ok-base.ensures.resolves c.in_ok-sides.ensures.resolves))

pub fill-returns-clause-resolves : goal.fill-returns-clause-resolves
fill-returns-clause-resolves t c =
    let bytes = c.args.self.now.names.bytes.now in
    answered c.fill.result c.fill.ensures.means
    (text_is (fill_is bytes c.in-Fill.span c.in-Fill.line c.in-Fill.base c.in-Fill.sides c.in-Fill.is c.deref-2.ensures c.deref-3.ensures c.as_slice.ensures)
    (fill_resolves bytes _ _ _ _ _ _ c.in_ok-line.ensures.resolves c.in_ok-base.ensures.resolves c.in_ok-sides.ensures.resolves))

pub transport-returns-clause-resolves : goal.transport-returns-clause-resolves
transport-returns-clause-resolves t c =
    let bytes = c.args.self.now.names.bytes.now in
    answered c.transport.result c.transport.ensures.means
    (text_is (transport_is bytes c.in-Transport.span c.in-Transport.line c.in-Transport.base c.in-Transport.is c.deref-2.ensures c.deref-3.ensures)
    (transport_resolves bytes _ _ _ _ c.in_ok-line.ensures.resolves c.in_ok-base.ensures.resolves))

-- glueing

pub glue_type-returns-clause-resolves : goal.glue_type-returns-clause-resolves
glue_type-returns-clause-resolves t c =
    let bytes = c.args.self.now.names.bytes.now in
    answered c.glue_type.result c.glue_type.ensures.means
    (text_is (glue_type_is bytes c.in-GlueType.span c.in-GlueType.base c.in-GlueType.sides c.in-GlueType.is c.deref.ensures c.as_slice.ensures)
    (glue_type_resolves bytes _ _ _ _ c.in_ok-base.ensures.resolves c.in_ok-sides.ensures.resolves))

pub glue_term-returns-clause-resolves : goal.glue_term-returns-clause-resolves
glue_term-returns-clause-resolves t c =
    let bytes = c.args.self.now.names.bytes.now in
    answered c.glue_term.result c.glue_term.ensures.means
    (text_is (glue_term_is bytes c.in-GlueTerm.span c.in-GlueTerm.base c.in-GlueTerm.sides c.in-GlueTerm.is c.deref.ensures c.as_slice.ensures)
    (glue_term_resolves bytes _ _ _ _ c.in_ok-base.ensures.resolves c.in_ok-sides.ensures.resolves))

pub unglue-returns-clause-resolves : goal.unglue-returns-clause-resolves
unglue-returns-clause-resolves t c =
    let bytes = c.args.self.now.names.bytes.now in
    answered c.unglue.result c.unglue.ensures.means
    (text_is (unglue_is bytes c.in-Unglue.span c.in-Unglue.base c.in-Unglue.sides c.in-Unglue.is c.deref.ensures c.as_slice.ensures)
    (unglue_resolves bytes _ _ _ _ c.in_ok-base.ensures.resolves c.in_ok-sides.ensures.resolves))

-- what is applied and projected

pub applied-returns-in-Name-clause-resolves : goal.applied-returns-in-Name-clause-resolves
applied-returns-in-Name-clause-resolves t c =
    answer_is _ _ c.named.result
    (named_is c.args.self.now.names.bytes.now c.in-Apply.span c.in-Apply.head c.in-Name.name c.in-Apply.elements c.in-Apply.is c.deref.ensures c.in-Name.is c.as_slice.ensures)
    c.named.ensures.resolves

pub applied-returns-in_ok-elements-in_default-deref-clause-resolves : goal.applied-returns-in_ok-elements-in_default-deref-clause-resolves
applied-returns-in_ok-elements-in_default-deref-clause-resolves t c =
    let bytes = c.args.self.now.names.bytes.now in
    answered c.apply.result c.apply.ensures.means
    (text_is (applied_is bytes c.in-Apply.span c.in-Apply.head c.in-Apply.elements c.in-Apply.is c.deref-in_default-deref.ensures (λ n e. c.in_default-deref.not-Name n (c.deref.ensures ∙ e)) c.as_slice-in_default-deref.ensures)
    (application_resolves bytes _ _ _ _ c.in_ok-head-in_default-deref.ensures.resolves c.in_ok-elements-in_default-deref.ensures.resolves))

pub project-returns-clause-resolves : goal.project-returns-clause-resolves
project-returns-clause-resolves t c =
    let bytes = c.args.self.now.names.bytes.now in
    answered c.projected.result c.projected.ensures.means
    (text_is (project_is bytes c.in-Project.span c.in-Project.pair c.in-Project.projections c.in-Project.is c.deref.ensures c.as_slice.ensures)
    (project_resolves bytes _ _ (λ t. project t c.as_slice.result.now) c.in_ok-pair.ensures.resolves))

-- expressions

pub exp-returns-in-Universe-clause-resolves : goal.exp-returns-in-Universe-clause-resolves
exp-returns-in-Universe-clause-resolves t c = text_is (universe_is c.args.self.now.names.bytes.now c.in-Universe.span c.in-Universe.is) (universe_resolves _ refl)

pub exp-returns-in-Name-clause-resolves : goal.exp-returns-in-Name-clause-resolves
exp-returns-in-Name-clause-resolves t c = name_answered _ _ c.name.result (name_is c.args.self.now.names.bytes.now c.in-Name.span c.in-Name.is) c.name.ensures.resolves

pub exp-returns-in-Brackets-clause-resolves : goal.exp-returns-in-Brackets-clause-resolves
exp-returns-in-Brackets-clause-resolves t c =
    answer_is _ _ c.brackets.result
    (brackets_is c.args.self.now.names.bytes.now c.in-Brackets.span c.in-Brackets.components c.in-Brackets.is c.as_slice.ensures)
    c.brackets.ensures.resolves

pub brackets-returns-clause-resolves : goal.brackets-returns-clause-resolves
brackets-returns-clause-resolves t c = tuple_resolves c.args.self.now.names.bytes.now _ _ _ c.tuple.ensures.means c.in_ok-exps.ensures.resolves

pub exps-loop-exp-init : goal.exps-loop-exp-init
exps-loop-exp-init t c =
    record {
      resolves =
          exps_none c.args.self.now.names.bytes.now c.args.place.now c.new-resolved.result.items c.new-resolved.ensures.items;
      spelt =
          terms_spelt_none c.new-resolved.result.items c.new-resolved.ensures.items;
    }

pub exps-loop-exp-preserved : goal.exps-loop-exp-preserved
exps-loop-exp-preserved t c =
    record {
      resolves =
          exps_more c.args.self.now.names.bytes.now _ _ _ _ _ _ (one_more c.args.exps.now c.loop-exp.exp-index c.exp-item.result (omega arith) c.exp-item.is)
          c.in_ok-push.ensures.items c.loop-exp.invariant.resolves c.in_ok-exp.ensures.resolves;
      spelt =
          terms_spelt_more _ _ _ _ _ _ (one_more c.args.exps.now c.loop-exp.exp-index c.exp-item.result (omega arith) c.exp-item.is) c.in_ok-push.ensures.items c.loop-exp.invariant.spelt
          (term_among c.loop-exp.invariant.resolves.keeps.names c.in_ok-exp.ensures.spelt);
    }

-- what heads are applied to

pub elements-loop-element-init : goal.elements-loop-element-init
elements-loop-element-init t c =
    record {
      resolves =
          elements_none c.args.self.now.names.bytes.now c.args.place.now c.new-resolved.result.items c.new-resolved.ensures.items;
      spelt =
          elements_spelt_none c.new-resolved.result.items c.new-resolved.ensures.items;
    }

pub elements-loop-element-preserved : goal.elements-loop-element-preserved
elements-loop-element-preserved t c =
    record {
      resolves =
          elements_more c.args.self.now.names.bytes.now _ _ _ _ _ _ (one_more c.args.elements.now c.loop-element.element-index c.element-item.result (omega arith) c.element-item.is)
          c.in_ok-push.ensures.items c.loop-element.invariant.resolves c.in_ok-element.ensures.resolves;
      spelt =
          elements_spelt_more _ _ _ _ _ _ (one_more c.args.elements.now c.loop-element.element-index c.element-item.result (omega arith) c.element-item.is) c.in_ok-push.ensures.items c.loop-element.invariant.spelt
          (element_among (c.loop-element.invariant.resolves.applies universe).keeps.names c.in_ok-element.ensures.spelt);
    }

-- sides

pub sides-loop-side-init : goal.sides-loop-side-init
sides-loop-side-init t c =
    record {
      resolves =
          sides_none c.args.self.now.names.bytes.now c.args.place.now c.new-resolved.result.items c.new-resolved.ensures.items;
      spelt =
          sides_spelt_none c.new-resolved.result.items c.new-resolved.ensures.items;
    }

pub sides-loop-side-preserved : goal.sides-loop-side-preserved
sides-loop-side-preserved t c =
    record {
      resolves =
          sides_more c.args.self.now.names.bytes.now _ _ _ _ _ _ (one_more c.args.sides.now c.loop-side.side-index c.side-item.result (omega arith) c.side-item.is)
          c.in_ok-push.ensures.items c.loop-side.invariant.resolves (text_is (ap (λ q. all (equations c.args.self.now.names.bytes.now q)) c.as_slice.ensures) c.in_ok-equations.ensures.resolves) c.in_ok-body.ensures.resolves;
      spelt =
          sides_spelt_more _ _ _ _ _ _ (one_more c.args.sides.now c.loop-side.side-index c.side-item.result (omega arith) c.side-item.is) c.in_ok-push.ensures.items c.span_of-span.ensures
          (equations_among c.args.self.now.names.bytes.now c.loop-side.invariant.resolves.keeps.names c.in_ok-equations.ensures.named c.as_slice.ensures) c.loop-side.invariant.spelt
          (term_among (c.in_ok-equations.ensures.resolves.keeps.names ∙ c.loop-side.invariant.resolves.keeps.names) c.in_ok-body.ensures.spelt);
    }

pub line_sides-loop-side-init : goal.line_sides-loop-side-init
line_sides-loop-side-init t c =
    record {
      resolves =
          line_sides_none c.args.self.now.names.bytes.now c.args.place.now c.new-resolved.result.items c.new-resolved.ensures.items;
      spelt =
          line_sides_spelt_none c.new-resolved.result.items c.new-resolved.ensures.items;
    }

pub line_sides-loop-side-preserved : goal.line_sides-loop-side-preserved
line_sides-loop-side-preserved t c =
    record {
      resolves =
          line_sides_more c.args.self.now.names.bytes.now _ _ _ _ _ _ (one_more c.args.sides.now c.loop-side.side-index c.side-item.result (omega arith) c.side-item.is)
          c.in_ok-push.ensures.items c.loop-side.invariant.resolves (text_is (ap (λ q. all (equations c.args.self.now.names.bytes.now q)) c.as_slice.ensures) c.in_ok-equations.ensures.resolves) c.in_ok-body.ensures.resolves;
      spelt =
          line_sides_spelt_more _ _ _ _ _ _ (one_more c.args.sides.now c.loop-side.side-index c.side-item.result (omega arith) c.side-item.is) c.in_ok-push.ensures.items c.span_of.ensures
          (equations_among c.args.self.now.names.bytes.now c.loop-side.invariant.resolves.keeps.names c.in_ok-equations.ensures.named c.as_slice.ensures) c.loop-side.invariant.spelt
          (line_among (c.in_ok-equations.ensures.resolves.keeps.names ∙ c.loop-side.invariant.resolves.keeps.names) c.in_ok-body.ensures.spelt);
    }

pub pair_sides-loop-side-init : goal.pair_sides-loop-side-init
pair_sides-loop-side-init t c =
    record {
      resolves =
          pair_sides_none c.args.self.now.names.bytes.now c.args.place.now c.new-resolved.result.items c.new-resolved.ensures.items;
      spelt =
          pair_sides_spelt_none c.new-resolved.result.items c.new-resolved.ensures.items;
    }

pub pair_sides-loop-side-preserved : goal.pair_sides-loop-side-preserved
pair_sides-loop-side-preserved t c =
    record {
      resolves =
          pair_sides_more c.args.self.now.names.bytes.now _ _ _ _ _ _ (one_more c.args.sides.now c.loop-side.side-index c.side-item.result (omega arith) c.side-item.is)
          c.in_ok-push.ensures.items (ap (λ s. s.start) c.span_of-span.ensures) c.loop-side.invariant.resolves (text_is (ap (λ q. all (equations c.args.self.now.names.bytes.now q)) c.as_slice.ensures) c.in_ok-equations.ensures.resolves) c.in_ok-pair.ensures.resolves;
      spelt =
          pair_sides_spelt_more _ _ _ _ _ _ (one_more c.args.sides.now c.loop-side.side-index c.side-item.result (omega arith) c.side-item.is) c.in_ok-push.ensures.items c.span_of-span.ensures
          (equations_among c.args.self.now.names.bytes.now c.loop-side.invariant.resolves.keeps.names c.in_ok-equations.ensures.named c.as_slice.ensures) c.loop-side.invariant.spelt
          (pair_among (c.in_ok-equations.ensures.resolves.keeps.names ∙ c.loop-side.invariant.resolves.keeps.names) c.in_ok-pair.ensures.spelt);
    }

-- teles and definitions

pub binders-loop-tele-init : goal.binders-loop-tele-init
binders-loop-tele-init t c =
    record {
      resolves =
          binders_none c.args.self.now.names.bytes.now c.args.place.now c.new-binders.result.items c.new-binders.ensures.items;
      spelt =
          binders_spelt_none c.new-binders.result.items c.new-binders.ensures.items;
    }

pub binders-loop-tele-preserved : goal.binders-loop-tele-preserved
binders-loop-tele-preserved t c =
    let bytes = c.args.self.now.names.bytes.now in
    let more = one_more c.args.teles.now c.loop-tele.tele-index c.tele-item.result (omega arith) c.tele-item.is in
    let bound = c.in_ok-binder.ensures.binds in
    let pushed = c.in_ok-push.ensures.items ∙ ap (λ b. c.loop-tele.binders.items ++ b ∷ []) c.in_ok-binder.ensures.made in
    let type = c.in_ok-ty.ensures in
    record {
      resolves = binders_more bytes _ _ _ _ _ _ more pushed refl bound c.loop-tele.invariant.resolves type.resolves;
      spelt =
          binders_spelt_more _ _ _ _ _ _ _ more pushed refl (names_bound c.exp.new.place _ (words_of bytes c.tele-item.result.names) binding.Variable bound type.resolves.keeps.names)
          c.loop-tele.invariant.spelt type.spelt;
    }

pub block-loop-def-init : goal.block-loop-def-init
block-loop-def-init t c =
    let none = block_none c.args.self.now.names.bytes.now c.args.place.now c.new-codes.result.items c.new-codes.ensures.items in
    record { opens = none.0; spelt = defs_spelt_none c.new-codes.result.items c.new-codes.ensures.items; seen = none.1; named = ap (map (λ d. (out-CodeDef d).name)) c.new-codes.ensures.items }

pub block-loop-def-preserved : goal.block-loop-def-preserved
block-loop-def-preserved t c =
    let i = c.loop-def.invariant in
    let more = one_more c.args.defs.now c.loop-def.def-index c.def-item.result (omega arith) c.def-item.is in
    let bound = defined_names c.in_ok-define.ensures c.in_ok-code.ensures.defines.keeps.names in
    let new = block_more c.args.self.now.names.bytes.now _ _ _ _ _ _ more c.in_ok-push.ensures.items c.next-first.ensures i.opens i.seen c.in_ok-code.ensures.defines c.in_ok-define.ensures in
    record { opens = new.0; spelt = defs_spelt_more _ _ _ _ _ _ more c.in_ok-push.ensures.items c.in_ok-code.ensures.named bound i.spelt c.in_ok-code.ensures.spelt; seen = new.1; named = names_more _ _ _ _ _ _ more c.in_ok-push.ensures.items c.in_ok-code.ensures.named i.named }

pub def-returns-clause-defines : goal.def-returns-clause-defines
def-returns-clause-defines t c =
    def_resolves c.args.self.now.names.bytes.now _ _ _ _ _ _ _ _ c.in_ok-body-2.body _ _ c.mark-mark.ensures c.as_slice.ensures c.as_slice-2.ensures refl refl
    c.in_ok-binders.ensures.resolves c.in_ok-ty.ensures.resolves c.in_ok-locals.ensures.opens c.in_ok-body.ensures.resolves c.cut.ensures
    c.in_ok-body-2.ensures.means c.in_ok-number.ensures.ok.0 c.in_ok-number.ensures.ok.1 c.new.ensures.means c.new.ensures.numbered

-- names that are applied

pub plain-returns-clause-resolves : goal.plain-returns-clause-resolves
unfolding plain_of
plain-returns-clause-resolves t c =
    answered c.apply.result c.apply.ensures.means
    (plain_resolves c.args.self.now.names.bytes.now _ c.in_ok-head.head _ c.in_ok-head.ensures.resolves c.in_ok-elements.ensures.resolves)

pub element-returns-in_ok-exp-in-Argument-clause-resolves : goal.element-returns-in_ok-exp-in-Argument-clause-resolves
element-returns-in_ok-exp-in-Argument-clause-resolves t c =
    argument_element c.args.self.now.names.bytes.now c.args.element.now c.in-Argument.exp _ c.in_ok-exp-in-Argument.field-0 c.in-Argument.is refl c.in_ok-exp-in-Argument.ensures.resolves

pub element-returns-in_ok-formula-in-At-clause-resolves : goal.element-returns-in_ok-formula-in-At-clause-resolves
element-returns-in_ok-formula-in-At-clause-resolves t c =
    at_element c.args.self.now.names.bytes.now c.args.element.now c.in-At.span c.in-At.formula _ c.in_ok-formula-in-At.field-0 c.in-At.is refl c.in_ok-formula-in-At.ensures.resolves

-- lines

pub line-returns-in_ok-body-in-Under-clause-resolves : goal.line-returns-in_ok-body-in-Under-clause-resolves
line-returns-in_ok-body-in-Under-clause-resolves t c =
    let bytes = c.args.self.now.names.bytes.now in
    opened_fits c.line_under.result c.line_under.ensures (λ l under.
    text_is (c.in-Under.ensures.reads.means bytes)
    (written_line bytes c.in-Under.name c.in-Under.others.now _ c.in_ok-body-in-Under.body under.code l c.mark-mark.ensures refl refl c.in_ok-open_at-in-Under.ensures
    c.in_ok-body-in-Under.ensures.resolves c.cut.ensures under.means under.opened))

pub line-returns-in_ok-exp-in-Applied-clause-resolves : goal.line-returns-in_ok-exp-in-Applied-clause-resolves
line-returns-in_ok-exp-in-Applied-clause-resolves t c =
    let bytes = c.args.self.now.names.bytes.now in
    applied_line bytes _ _ _ refl (c.in-Applied.ensures.reads.means bytes) c.in_ok-exp-in-Applied.ensures.resolves

-- motives

pub motive-returns-in_ok-body-in-Under-2-clause-resolves : goal.motive-returns-in_ok-body-in-Under-2-clause-resolves
motive-returns-in_ok-body-in-Under-2-clause-resolves t c =
    let bytes = c.args.self.now.names.bytes.now in
    opened_fits c.motive_under.result c.motive_under.ensures (λ m under.
    written_motive bytes c.in-Under.name c.in-Under.others.now c.in-Under.teles.now _ _ c.in_ok-body-in-Under.body c.in_ok-body-in-Under-2.body under.code m (motive_of bytes c.args.exp.now)
    c.mark-mark.ensures refl refl c.in_ok-open_at-in-Under.ensures c.in_ok-binders-in-Under.ensures.resolves
    c.in_ok-body-in-Under.ensures.resolves c.cut.ensures c.in_ok-body-in-Under-2.ensures.means under.means under.opened c.in-Under.ensures.reads.means)

pub motive-returns-in_ok-exp-in-Applied-clause-resolves : goal.motive-returns-in_ok-exp-in-Applied-clause-resolves
motive-returns-in_ok-exp-in-Applied-clause-resolves t c =
    applied_motive c.args.self.now.names.bytes.now _ _ _ refl c.in-Applied.ensures.reads.means c.in_ok-exp-in-Applied.ensures.resolves

-- pairs

pub pair-returns-in_ok-exps-in-Pair-clause-resolves : goal.pair-returns-in_ok-exps-in-Pair-clause-resolves
pair-returns-in_ok-exps-in-Pair-clause-resolves t c =
    let bytes = c.args.self.now.names.bytes.now in
    let cs = c.in_ok-exps-in-Pair.field-0.items in
    text_is (c.in-Pair.ensures.reads.means bytes c.args.span.start)
    (pair_resolves bytes c.in-Pair.ty.now c.in-Pair.equivalence.now c.in_ok-ty-in-Pair.ty c.tuple-equivalence.result cs c.tuple-equivalence.ensures.means
    c.in_ok-ty-in-Pair.ensures.resolves c.in_ok-exps-in-Pair.ensures.resolves)

pub pair-returns-in-Term-clause-resolves : goal.pair-returns-in-Term-clause-resolves
pair-returns-in-Term-clause-resolves t c =
    pair_answer_is _ _ c.no_pair.result (c.in-Term.ensures.reads.means c.args.self.now.names.bytes.now c.args.span.start) c.no_pair.ensures.resolves

pub no_pair-returns-clause-resolves : goal.no_pair-returns-clause-resolves
no_pair-returns-clause-resolves t c =
    no_pair_resolves c.args.self.now.names.bytes.now _ _ _ c.args.span.start refl c.in_ok-ty.ensures.resolves c.refuse.ensures

pub named-returns-in-BuiltIn-Nat-clause-resolves : goal.named-returns-in-BuiltIn-Nat-clause-resolves
named-returns-in-BuiltIn-Nat-clause-resolves t c =
    other_named c.args.self.now.names.bytes.now _ _ c.args.name c.args.elements.now c.find.result c.plain.result
    (c.find.ensures ∙ ap (find c.args.place.now.names) c.spelling.ensures) (λ e. let i = c.in-BuiltIn-Nat.is in let j = c.in-BuiltIn-Nat.field-0-is in cc) (λ e. let i = c.in-BuiltIn-Nat.is in let j = c.in-BuiltIn-Nat.field-0-is in cc) c.plain.ensures.resolves

pub named-returns-in-BuiltIn-Zero-clause-resolves : goal.named-returns-in-BuiltIn-Zero-clause-resolves
named-returns-in-BuiltIn-Zero-clause-resolves t c =
    other_named c.args.self.now.names.bytes.now _ _ c.args.name c.args.elements.now c.find.result c.plain-in-BuiltIn-Zero.result
    (c.find.ensures ∙ ap (find c.args.place.now.names) c.spelling.ensures) (λ e. let i = c.in-BuiltIn-Zero.is in let j = c.in-BuiltIn-Zero.field-0-is in cc) (λ e. let i = c.in-BuiltIn-Zero.is in let j = c.in-BuiltIn-Zero.field-0-is in cc) c.plain-in-BuiltIn-Zero.ensures.resolves

pub named-returns-in-Variable-clause-resolves : goal.named-returns-in-Variable-clause-resolves
named-returns-in-Variable-clause-resolves t c =
    other_named c.args.self.now.names.bytes.now _ _ c.args.name c.args.elements.now c.find.result c.plain-in-Variable.result
    (c.find.ensures ∙ ap (find c.args.place.now.names) c.spelling.ensures) (λ e. let i = c.in-Variable.is in cc) (λ e. let i = c.in-Variable.is in cc) c.plain-in-Variable.ensures.resolves

pub named-returns-in-Interval-clause-resolves : goal.named-returns-in-Interval-clause-resolves
named-returns-in-Interval-clause-resolves t c =
    other_named c.args.self.now.names.bytes.now _ _ c.args.name c.args.elements.now c.find.result c.plain-in-Interval.result
    (c.find.ensures ∙ ap (find c.args.place.now.names) c.spelling.ensures) (λ e. let i = c.in-Interval.is in cc) (λ e. let i = c.in-Interval.is in cc) c.plain-in-Interval.ensures.resolves

pub named-returns-in-Definition-clause-resolves : goal.named-returns-in-Definition-clause-resolves
named-returns-in-Definition-clause-resolves t c =
    other_named c.args.self.now.names.bytes.now _ _ c.args.name c.args.elements.now c.find.result c.plain-in-Definition.result
    (c.find.ensures ∙ ap (find c.args.place.now.names) c.spelling.ensures) (λ e. let i = c.in-Definition.is in cc) (λ e. let i = c.in-Definition.is in cc) c.plain-in-Definition.ensures.resolves

pub named-returns-in-Nothing-clause-resolves : goal.named-returns-in-Nothing-clause-resolves
named-returns-in-Nothing-clause-resolves t c =
    other_named c.args.self.now.names.bytes.now _ _ c.args.name c.args.elements.now c.find.result c.plain-in-Nothing.result
    (c.find.ensures ∙ ap (find c.args.place.now.names) c.spelling.ensures) (λ e. let i = c.in-Nothing.is in cc) (λ e. let i = c.in-Nothing.is in cc) c.plain-in-Nothing.ensures.resolves

pub suc-returns-in_default-clause-resolves : goal.suc-returns-in_default-clause-resolves
suc-returns-in_default-clause-resolves t c =
    few_named c.args.self.now.names.bytes.now _ _ c.args.name c.args.elements.now (found.BuiltIn built_in.Suc) c.plain.result (sym c.requires)
    (λ e. leading_none c.args.elements.now c.in_default.ensures) (λ e. absurd (let k = e in cc)) c.plain.ensures.resolves

pub suc-returns-clause-resolves : goal.suc-returns-clause-resolves
suc-returns-clause-resolves t c =
    made_answers c.apply.result c.apply.ensures.means
    (λ D whole. suc_named c.args.self.now.names.bytes.now c.args.name c.args.elements.now (found.BuiltIn built_in.Suc) (sym c.requires)
    c.in-Some.argument.now c.in-Some.rest.now c.in_ok-argument.argument c.in_ok-head.head D c.in_ok-elements.elements.items
    refl c.in-Some.ensures c.in_ok-argument.ensures.resolves c.in_ok-head.ensures.means c.in_ok-elements.ensures.resolves whole)

pub natrec-returns-in_default-clause-resolves : goal.natrec-returns-in_default-clause-resolves
natrec-returns-in_default-clause-resolves t c =
    let none = leading_none c.args.elements.now c.in_default.ensures in
    few_named c.args.self.now.names.bytes.now _ _ c.args.name c.args.elements.now (found.BuiltIn built_in.NatRec) c.plain.result (sym c.requires)
    (λ e. absurd (let k = e in cc)) (λ e. omega (arith, none)) c.plain.ensures.resolves

pub natrec-returns-in_default-first_argument-clause-resolves : goal.natrec-returns-in_default-first_argument-clause-resolves
natrec-returns-in_default-first_argument-clause-resolves t c =
    let first = leading_more c.args.elements.now c.in-Some.motive.now c.in-Some.rest.now c.in-Some.ensures in
    let none = leading_none c.in-Some.rest.now c.in_default-first_argument.ensures in
    few_named c.args.self.now.names.bytes.now _ _ c.args.name c.args.elements.now (found.BuiltIn built_in.NatRec) c.plain-in_default-first_argument.result (sym c.requires)
    (λ e. absurd (let k = e in cc)) (λ e. omega (arith, first, none)) c.plain-in_default-first_argument.ensures.resolves

pub natrec-returns-in_default-first_argument-2-clause-resolves : goal.natrec-returns-in_default-first_argument-2-clause-resolves
natrec-returns-in_default-first_argument-2-clause-resolves t c =
    let first = leading_more c.args.elements.now c.in-Some.motive.now c.in-Some.rest.now c.in-Some.ensures in
    let second = leading_more c.in-Some.rest.now c.in-Some-first_argument.base.now c.in-Some-first_argument.rest.now c.in-Some-first_argument.ensures in
    let none = leading_none c.in-Some-first_argument.rest.now c.in_default-first_argument-2.ensures in
    few_named c.args.self.now.names.bytes.now _ _ c.args.name c.args.elements.now (found.BuiltIn built_in.NatRec) c.plain-in_default-first_argument-2.result (sym c.requires)
    (λ e. absurd (let k = e in cc)) (λ e. omega (arith, first, second, none)) c.plain-in_default-first_argument-2.ensures.resolves

pub natrec-returns-in_default-first_argument-3-clause-resolves : goal.natrec-returns-in_default-first_argument-3-clause-resolves
natrec-returns-in_default-first_argument-3-clause-resolves t c =
    let first = leading_more c.args.elements.now c.in-Some.motive.now c.in-Some.rest.now c.in-Some.ensures in
    let second = leading_more c.in-Some.rest.now c.in-Some-first_argument.base.now c.in-Some-first_argument.rest.now c.in-Some-first_argument.ensures in
    let third = leading_more c.in-Some-first_argument.rest.now c.in-Some-first_argument-2.step.now c.in-Some-first_argument-2.rest.now c.in-Some-first_argument-2.ensures in
    let none = leading_none c.in-Some-first_argument-2.rest.now c.in_default-first_argument-3.ensures in
    few_named c.args.self.now.names.bytes.now _ _ c.args.name c.args.elements.now (found.BuiltIn built_in.NatRec) c.plain-in_default-first_argument-3.result (sym c.requires)
    (λ e. absurd (let k = e in cc)) (λ e. omega (arith, first, second, third, none)) c.plain-in_default-first_argument-3.ensures.resolves

pub natrec-returns-clause-resolves : goal.natrec-returns-clause-resolves
natrec-returns-clause-resolves t c =
    let four = four_arguments c.in-Some.ensures c.in-Some-first_argument.ensures c.in-Some-first_argument-2.ensures c.in-Some-first_argument-3.ensures in
    made_answers c.apply.result c.apply.ensures.means
    (λ D whole. natrec_named c.args.self.now.names.bytes.now c.args.name c.args.elements.now (found.BuiltIn built_in.NatRec) (sym c.requires)
    c.in-Some.motive.now c.in-Some-first_argument.base.now c.in-Some-first_argument-2.step.now c.in-Some-first_argument-3.argument.now c.in-Some-first_argument-3.rest.now
    c.in_ok-motive.motive c.in_ok-base.base c.in_ok-step.step c.in_ok-argument.argument c.in_ok-head.head D c.in_ok-elements.elements.items
    refl four c.in_ok-motive.ensures.resolves c.in_ok-base.ensures.resolves c.in_ok-step.ensures.resolves c.in_ok-argument.ensures.resolves c.in_ok-head.ensures.means c.in_ok-elements.ensures.resolves whole)

-- what the codes are made of

pub let_in-returns-clause-spelt : goal.let_in-returns-clause-spelt
let_in-returns-clause-spelt t c =
    made _ _ _ _ c.let_in.result c.let_in.ensures.shaped (let_tree c.in-Let.span c.in-Let.defs c.in-Let.body c.in-Let.is c.as_slice.ensures c.deref.ensures)
    (_, _, refl, c.in_ok-locals.ensures.spelt.become, (term_among c.in_ok-locals.ensures.spelt.leaves c.in_ok-body.ensures.spelt).becomes)

pub lambda-returns-clause-spelt : goal.lambda-returns-clause-spelt
lambda-returns-clause-spelt t c =
    made _ _ _ _ c.lambda.result c.lambda.ensures.shaped (lambda_tree c.in-Lambda.span c.in-Lambda.teles c.in-Lambda.body c.in-Lambda.is c.as_slice.ensures c.deref.ensures)
    (_, _, refl, c.in_ok-binders.ensures.spelt.become, (term_among c.in_ok-binders.ensures.spelt.leaves c.in_ok-body.ensures.spelt).becomes)

pub pi-returns-clause-spelt : goal.pi-returns-clause-spelt
pi-returns-clause-spelt t c =
    made _ _ _ _ c.pi.result c.pi.ensures.shaped (pi_tree c.in-Pi.span c.in-Pi.teles c.in-Pi.body c.in-Pi.is c.as_slice.ensures c.deref.ensures)
    (_, _, refl, c.in_ok-binders.ensures.spelt.become, (term_among c.in_ok-binders.ensures.spelt.leaves c.in_ok-body.ensures.spelt).becomes)

pub sigma-returns-clause-spelt : goal.sigma-returns-clause-spelt
sigma-returns-clause-spelt t c =
    made _ _ _ _ c.sigma.result c.sigma.ensures.shaped (sigma_tree c.in-Sigma.span c.in-Sigma.teles c.in-Sigma.body c.in-Sigma.is c.as_slice.ensures c.deref.ensures)
    (_, _, refl, c.in_ok-binders.ensures.spelt.become, (term_among c.in_ok-binders.ensures.spelt.leaves c.in_ok-body.ensures.spelt).becomes)

pub path_lambda-returns-clause-spelt : goal.path_lambda-returns-clause-spelt
path_lambda-returns-clause-spelt t c =
    made _ _ _ _ c.path_lambda.result c.path_lambda.ensures.shaped (path_lambda_tree c.in-PathLambda.span c.in-PathLambda.names c.in-PathLambda.body c.in-PathLambda.is c.as_slice-names.ensures c.deref.ensures)
    (under_names c.args.self.now.names.bytes.now c.args.place.now.names c.in-PathLambda.span c.as_slice-names.result.now
    (names_bound c.args.place.now _ (words_of c.args.self.now.names.bytes.now c.as_slice-names.result.now) binding.Interval c.in_ok-bind_all.ensures refl) c.in_ok-body.ensures.spelt)

pub arrow-returns-clause-spelt : goal.arrow-returns-clause-spelt
arrow-returns-clause-spelt t c =
    made _ _ _ _ c.arrow.result c.arrow.ensures.shaped (arrow_tree c.in-Arrow.span c.in-Arrow.from c.in-Arrow.to c.in-Arrow.is c.deref.ensures c.deref-2.ensures)
    (_, _, refl, c.in_ok-from.ensures.spelt.becomes, (term_among (names_bound c.exp.new.place _ (codes "_" ∷ []) binding.Variable c.in_ok-bind.ensures.ok c.in_ok-from.ensures.resolves.keeps.names) c.in_ok-to.ensures.spelt).becomes)

pub path_type-returns-clause-spelt : goal.path_type-returns-clause-spelt
path_type-returns-clause-spelt t c =
    made _ _ _ _ c.path_type.result c.path_type.ensures.shaped (path_type_tree c.in-PathP.span c.in-PathP.line c.in-PathP.left c.in-PathP.right c.in-PathP.is c.deref-2.ensures c.deref-3.ensures c.deref-4.ensures) (
      _,
      _,
      _,
      refl,
      line_at c.span_of.ensures c.deref.ensures c.deref-2.ensures c.in_ok-line.ensures.spelt,
      (term_among c.in_ok-line.ensures.resolves.keeps.names c.in_ok-left.ensures.spelt).becomes,
      (term_among (c.in_ok-left.ensures.resolves.keeps.names ∙ c.in_ok-line.ensures.resolves.keeps.names) c.in_ok-right.ensures.spelt).becomes,
    )

pub comp-returns-clause-spelt : goal.comp-returns-clause-spelt
comp-returns-clause-spelt t c =
    made _ _ _ _ c.comp.result c.comp.ensures.shaped (comp_tree c.in-Comp.span c.in-Comp.line c.in-Comp.base c.in-Comp.sides c.in-Comp.is c.deref-2.ensures c.deref-3.ensures c.as_slice.ensures) (
      _,
      _,
      _,
      refl,
      line_at c.span_of.ensures c.deref.ensures c.deref-2.ensures c.in_ok-line.ensures.spelt,
      (term_among c.in_ok-line.ensures.resolves.keeps.names c.in_ok-base.ensures.spelt).becomes,
      (line_sides_among (c.in_ok-base.ensures.resolves.keeps.names ∙ c.in_ok-line.ensures.resolves.keeps.names) c.in_ok-sides.ensures.spelt).become,
    )

pub fill-returns-clause-spelt : goal.fill-returns-clause-spelt
fill-returns-clause-spelt t c =
    made _ _ _ _ c.fill.result c.fill.ensures.shaped (fill_tree c.in-Fill.span c.in-Fill.line c.in-Fill.base c.in-Fill.sides c.in-Fill.is c.deref-2.ensures c.deref-3.ensures c.as_slice.ensures) (
      _,
      _,
      _,
      refl,
      line_at c.span_of.ensures c.deref.ensures c.deref-2.ensures c.in_ok-line.ensures.spelt,
      (term_among c.in_ok-line.ensures.resolves.keeps.names c.in_ok-base.ensures.spelt).becomes,
      (line_sides_among (c.in_ok-base.ensures.resolves.keeps.names ∙ c.in_ok-line.ensures.resolves.keeps.names) c.in_ok-sides.ensures.spelt).become,
    )

pub transport-returns-clause-spelt : goal.transport-returns-clause-spelt
transport-returns-clause-spelt t c =
    made _ _ _ _ c.transport.result c.transport.ensures.shaped (transport_tree c.in-Transport.span c.in-Transport.line c.in-Transport.base c.in-Transport.is c.deref-2.ensures c.deref-3.ensures)
    (_, _, refl, line_at c.span_of.ensures c.deref.ensures c.deref-2.ensures c.in_ok-line.ensures.spelt, (term_among c.in_ok-line.ensures.resolves.keeps.names c.in_ok-base.ensures.spelt).becomes)

pub glue_type-returns-clause-spelt : goal.glue_type-returns-clause-spelt
glue_type-returns-clause-spelt t c =
    made _ _ _ _ c.glue_type.result c.glue_type.ensures.shaped (glue_type_tree c.in-GlueType.span c.in-GlueType.base c.in-GlueType.sides c.in-GlueType.is c.deref.ensures c.as_slice.ensures)
    (_, _, refl, c.in_ok-base.ensures.spelt.becomes, (pair_sides_among c.in_ok-base.ensures.resolves.keeps.names c.in_ok-sides.ensures.spelt).become)

pub glue_term-returns-clause-spelt : goal.glue_term-returns-clause-spelt
glue_term-returns-clause-spelt t c =
    made _ _ _ _ c.glue_term.result c.glue_term.ensures.shaped (glue_term_tree c.in-GlueTerm.span c.in-GlueTerm.base c.in-GlueTerm.sides c.in-GlueTerm.is c.deref.ensures c.as_slice.ensures)
    (_, _, refl, c.in_ok-base.ensures.spelt.becomes, (sides_among c.in_ok-base.ensures.resolves.keeps.names c.in_ok-sides.ensures.spelt).become)

pub unglue-returns-clause-spelt : goal.unglue-returns-clause-spelt
unglue-returns-clause-spelt t c =
    made _ _ _ _ c.unglue.result c.unglue.ensures.shaped (unglue_tree c.in-Unglue.span c.in-Unglue.base c.in-Unglue.sides c.in-Unglue.is c.deref.ensures c.as_slice.ensures)
    (_, _, refl, c.in_ok-base.ensures.spelt.becomes, (pair_sides_among c.in_ok-base.ensures.resolves.keeps.names c.in_ok-sides.ensures.spelt).become)

pub applied-returns-in-Name-clause-spelt : goal.applied-returns-in-Name-clause-spelt
applied-returns-in-Name-clause-spelt t c =
    named_term _ _ c.in-Apply.span c.in-Apply.head c.in-Name.name c.in-Apply.elements c.named.result c.in-Apply.is c.deref.ensures c.in-Name.is c.as_slice.ensures c.named.ensures.spelt

pub applied-returns-in_ok-elements-in_default-deref-clause-spelt : goal.applied-returns-in_ok-elements-in_default-deref-clause-spelt
applied-returns-in_ok-elements-in_default-deref-clause-spelt t c =
    made _ _ _ _ c.apply.result c.apply.ensures.shaped (apply_tree c.in-Apply.span c.in-Apply.head c.in-Apply.elements c.in-Apply.is c.deref-in_default-deref.ensures c.as_slice-in_default-deref.ensures)
    (applied_term c.in-Apply.span (λ n e. c.in_default-deref.not-Name n (c.deref.ensures ∙ sym c.deref-in_default-deref.ensures ∙ e)) c.in_ok-head-in_default-deref.ensures.spelt
    (elements_among c.in_ok-head-in_default-deref.ensures.resolves.keeps.names c.in_ok-elements-in_default-deref.ensures.spelt))

pub project-returns-clause-spelt : goal.project-returns-clause-spelt
project-returns-clause-spelt t c =
    made _ _ _ _ c.projected.result c.projected.ensures.shaped (project_tree c.in-Project.span c.in-Project.pair c.in-Project.projections c.in-Project.is c.deref.ensures c.as_slice.ensures)
    (_, refl, c.in_ok-pair.ensures.spelt.becomes)

pub exp-returns-in-Universe-clause-spelt : goal.exp-returns-in-Universe-clause-spelt
exp-returns-in-Universe-clause-spelt t c =
    universe_term _ _ c.in-Universe.span _ c.in-Universe.is refl

pub exp-returns-in-Name-clause-spelt : goal.exp-returns-in-Name-clause-spelt
exp-returns-in-Name-clause-spelt t c =
    name_term _ _ c.in-Name.span c.name.result c.in-Name.is c.name.ensures.shaped

pub exp-returns-in-Brackets-clause-spelt : goal.exp-returns-in-Brackets-clause-spelt
exp-returns-in-Brackets-clause-spelt t c =
    brackets_term _ _ c.in-Brackets.span c.in-Brackets.components c.brackets.result c.in-Brackets.is c.as_slice.ensures c.brackets.ensures.spelt

pub brackets-returns-clause-spelt : goal.brackets-returns-clause-spelt
brackets-returns-clause-spelt t c =
    tuple_spelt _ _ c.args.span c.args.components.now _ _ c.tuple.ensures.shaped c.in_ok-exps.ensures.spelt

pub plain-returns-clause-spelt : goal.plain-returns-clause-spelt
plain-returns-clause-spelt t c =
    plain_made _ _ c.args.span c.args.name c.args.elements.now c.in_ok-head.head c.apply.result c.apply.ensures.shaped c.in_ok-head.ensures.shaped (elements_among c.in_ok-head.ensures.resolves.keeps.names c.in_ok-elements.ensures.spelt)

pub named-returns-in-BuiltIn-Nat-clause-spelt : goal.named-returns-in-BuiltIn-Nat-clause-spelt
named-returns-in-BuiltIn-Nat-clause-spelt t c =
    other_applied _ _ _ _ _ c.plain.result (c.find.ensures ∙ ap (find c.args.place.now.names) c.spelling.ensures) (λ e. let i = c.in-BuiltIn-Nat.is in let j = c.in-BuiltIn-Nat.field-0-is in cc) (λ e. let i = c.in-BuiltIn-Nat.is in let j = c.in-BuiltIn-Nat.field-0-is in cc) c.plain.ensures.spelt

pub named-returns-in-BuiltIn-Zero-clause-spelt : goal.named-returns-in-BuiltIn-Zero-clause-spelt
named-returns-in-BuiltIn-Zero-clause-spelt t c =
    other_applied _ _ _ _ _ c.plain-in-BuiltIn-Zero.result (c.find.ensures ∙ ap (find c.args.place.now.names) c.spelling.ensures) (λ e. let i = c.in-BuiltIn-Zero.is in let j = c.in-BuiltIn-Zero.field-0-is in cc) (λ e. let i = c.in-BuiltIn-Zero.is in let j = c.in-BuiltIn-Zero.field-0-is in cc) c.plain-in-BuiltIn-Zero.ensures.spelt

pub named-returns-in-Variable-clause-spelt : goal.named-returns-in-Variable-clause-spelt
named-returns-in-Variable-clause-spelt t c =
    other_applied _ _ _ _ _ c.plain-in-Variable.result (c.find.ensures ∙ ap (find c.args.place.now.names) c.spelling.ensures) (λ e. let i = c.in-Variable.is in cc) (λ e. let i = c.in-Variable.is in cc) c.plain-in-Variable.ensures.spelt

pub named-returns-in-Interval-clause-spelt : goal.named-returns-in-Interval-clause-spelt
named-returns-in-Interval-clause-spelt t c =
    other_applied _ _ _ _ _ c.plain-in-Interval.result (c.find.ensures ∙ ap (find c.args.place.now.names) c.spelling.ensures) (λ e. let i = c.in-Interval.is in cc) (λ e. let i = c.in-Interval.is in cc) c.plain-in-Interval.ensures.spelt

pub named-returns-in-Definition-clause-spelt : goal.named-returns-in-Definition-clause-spelt
named-returns-in-Definition-clause-spelt t c =
    other_applied _ _ _ _ _ c.plain-in-Definition.result (c.find.ensures ∙ ap (find c.args.place.now.names) c.spelling.ensures) (λ e. let i = c.in-Definition.is in cc) (λ e. let i = c.in-Definition.is in cc) c.plain-in-Definition.ensures.spelt

pub named-returns-in-Nothing-clause-spelt : goal.named-returns-in-Nothing-clause-spelt
named-returns-in-Nothing-clause-spelt t c =
    other_applied _ _ _ _ _ c.plain-in-Nothing.result (c.find.ensures ∙ ap (find c.args.place.now.names) c.spelling.ensures) (λ e. let i = c.in-Nothing.is in cc) (λ e. let i = c.in-Nothing.is in cc) c.plain-in-Nothing.ensures.spelt

pub suc-returns-in_default-clause-spelt : goal.suc-returns-in_default-clause-spelt
suc-returns-in_default-clause-spelt t c =
    few_applied _ _ _ _ _ c.plain.result (sym c.requires) (λ e. leading_none c.args.elements.now c.in_default.ensures) (λ e. absurd (let k = e in cc)) c.plain.ensures.spelt

pub natrec-returns-in_default-clause-spelt : goal.natrec-returns-in_default-clause-spelt
natrec-returns-in_default-clause-spelt t c =
    let none = leading_none c.args.elements.now c.in_default.ensures in
    few_applied _ _ _ _ _ c.plain.result (sym c.requires) (λ e. absurd (let k = e in cc)) (λ e. omega (arith, none)) c.plain.ensures.spelt

pub natrec-returns-in_default-first_argument-clause-spelt : goal.natrec-returns-in_default-first_argument-clause-spelt
natrec-returns-in_default-first_argument-clause-spelt t c =
    let first = leading_more c.args.elements.now c.in-Some.motive.now c.in-Some.rest.now c.in-Some.ensures in
    let none = leading_none c.in-Some.rest.now c.in_default-first_argument.ensures in
    few_applied _ _ _ _ _ c.plain-in_default-first_argument.result (sym c.requires) (λ e. absurd (let k = e in cc)) (λ e. omega (arith, first, none)) c.plain-in_default-first_argument.ensures.spelt

pub natrec-returns-in_default-first_argument-2-clause-spelt : goal.natrec-returns-in_default-first_argument-2-clause-spelt
natrec-returns-in_default-first_argument-2-clause-spelt t c =
    let first = leading_more c.args.elements.now c.in-Some.motive.now c.in-Some.rest.now c.in-Some.ensures in
    let second = leading_more c.in-Some.rest.now c.in-Some-first_argument.base.now c.in-Some-first_argument.rest.now c.in-Some-first_argument.ensures in
    let none = leading_none c.in-Some-first_argument.rest.now c.in_default-first_argument-2.ensures in
    few_applied _ _ _ _ _ c.plain-in_default-first_argument-2.result (sym c.requires) (λ e. absurd (let k = e in cc)) (λ e. omega (arith, first, second, none)) c.plain-in_default-first_argument-2.ensures.spelt

pub natrec-returns-in_default-first_argument-3-clause-spelt : goal.natrec-returns-in_default-first_argument-3-clause-spelt
natrec-returns-in_default-first_argument-3-clause-spelt t c =
    let first = leading_more c.args.elements.now c.in-Some.motive.now c.in-Some.rest.now c.in-Some.ensures in
    let second = leading_more c.in-Some.rest.now c.in-Some-first_argument.base.now c.in-Some-first_argument.rest.now c.in-Some-first_argument.ensures in
    let third = leading_more c.in-Some-first_argument.rest.now c.in-Some-first_argument-2.step.now c.in-Some-first_argument-2.rest.now c.in-Some-first_argument-2.ensures in
    let none = leading_none c.in-Some-first_argument-2.rest.now c.in_default-first_argument-3.ensures in
    few_applied _ _ _ _ _ c.plain-in_default-first_argument-3.result (sym c.requires) (λ e. absurd (let k = e in cc)) (λ e. omega (arith, first, second, third, none)) c.plain-in_default-first_argument-3.ensures.spelt

pub suc-returns-clause-spelt : goal.suc-returns-clause-spelt
suc-returns-clause-spelt t c =
    suc_applied _ _ _ _ c.apply.result c.requires c.apply.ensures.shaped c.in_ok-head.ensures.shaped c.in-Some.ensures c.in_ok-argument.ensures.spelt
    (elements_among c.in_ok-argument.ensures.resolves.keeps.names c.in_ok-elements.ensures.spelt)

pub natrec-returns-clause-spelt : goal.natrec-returns-clause-spelt
natrec-returns-clause-spelt t c =
    let four = four_arguments c.in-Some.ensures c.in-Some-first_argument.ensures c.in-Some-first_argument-2.ensures c.in-Some-first_argument-3.ensures in
    let first = c.in_ok-motive.ensures.resolves.keeps.names in
    let second = c.in_ok-base.ensures.resolves.keeps.names ∙ first in
    let third = c.in_ok-step.ensures.resolves.keeps.names ∙ second in
    let last = c.in_ok-argument.ensures.resolves.keeps.names ∙ third in
    natrec_applied _ _ _ _ c.apply.result c.requires c.apply.ensures.shaped c.in_ok-head.ensures.shaped four c.span_of.ensures c.in_ok-motive.ensures.spelt
    (term_among first c.in_ok-base.ensures.spelt) (term_among second c.in_ok-step.ensures.spelt) (term_among third c.in_ok-argument.ensures.spelt) (elements_among last c.in_ok-elements.ensures.spelt)

pub element-returns-in_ok-exp-in-Argument-clause-spelt : goal.element-returns-in_ok-exp-in-Argument-clause-spelt
element-returns-in_ok-exp-in-Argument-clause-spelt t c =
    argument_spelt c.in-Argument.is c.in_ok-exp-in-Argument.ensures.spelt

pub element-returns-in_ok-formula-in-At-clause-spelt : goal.element-returns-in_ok-formula-in-At-clause-spelt
element-returns-in_ok-formula-in-At-clause-spelt t c =
    at_spelt c.in-At.span c.in-At.is c.in_ok-formula-in-At.ensures.shaped

pub line-returns-in_ok-body-in-Under-clause-spelt : goal.line-returns-in_ok-body-in-Under-clause-spelt
line-returns-in_ok-body-in-Under-clause-spelt t c =
    let bytes = c.args.self.now.names.bytes.now in
    let x = c.in-Under.name in
    let bound = first_bound c.args.place.now _ _ (word bytes x) (words_of bytes c.in-Under.others.now) binding.Interval refl c.in_ok-open_at-in-Under.ensures in
    opened_fits c.line_under.result c.line_under.ensures (λ l under.
    subst (IsLine bytes c.args.place.now.names c.args.span c.args.exp.now) (sym under.opened)
    (line_spelt c.args.span c.in_ok-body-in-Under.body under.code c.in-Under.ensures.reads bound c.in_ok-body-in-Under.ensures.spelt under.shaped))

pub line-returns-in_ok-exp-in-Applied-clause-spelt : goal.line-returns-in_ok-exp-in-Applied-clause-spelt
line-returns-in_ok-exp-in-Applied-clause-spelt t c =
    record { becomes = c.in-Applied.ensures.reads.becomes c.args.self.now.names.bytes.now c.args.place.now.names c.args.span _ c.in_ok-exp-in-Applied.ensures.spelt.becomes }

pub motive-returns-in_ok-body-in-Under-2-clause-spelt : goal.motive-returns-in_ok-body-in-Under-2-clause-spelt
motive-returns-in_ok-body-in-Under-2-clause-spelt t c =
    let bytes = c.args.self.now.names.bytes.now in
    let v = c.in-Under.name in
    let bound = first_bound c.args.place.now _ _ (word bytes v) (words_of bytes c.in-Under.others.now) binding.Variable refl c.in_ok-open_at-in-Under.ensures in
    opened_fits c.motive_under.result c.motive_under.ensures (λ m under.
    subst (IsMotive bytes c.args.place.now.names c.args.span c.args.exp.now) (sym under.opened)
    (motive_spelt c.args.place.now c.args.span c.in_ok-body-in-Under.body c.in_ok-body-in-Under-2.body under.code c.in-Under.ensures.reads bound
    c.in_ok-binders-in-Under.ensures.spelt c.in_ok-body-in-Under.ensures.spelt c.in_ok-body-in-Under-2.ensures.shaped under.shaped))

pub motive-returns-in_ok-exp-in-Applied-clause-spelt : goal.motive-returns-in_ok-exp-in-Applied-clause-spelt
motive-returns-in_ok-exp-in-Applied-clause-spelt t c =
    record { becomes = c.in-Applied.ensures.reads.becomes c.args.span _ c.in_ok-exp-in-Applied.ensures.spelt.becomes }

pub pair-returns-in_ok-exps-in-Pair-clause-spelt : goal.pair-returns-in_ok-exps-in-Pair-clause-spelt
pair-returns-in_ok-exps-in-Pair-clause-spelt t c =
    pair_spelt c.args.span c.in_ok-ty-in-Pair.ty c.tuple-equivalence.result c.in-Pair.ensures.reads c.in_ok-ty-in-Pair.ensures.spelt
    (terms_among c.in_ok-ty-in-Pair.ensures.resolves.keeps.names c.in_ok-exps-in-Pair.ensures.spelt) c.tuple-equivalence.ensures.shaped

pub pair-returns-in-Term-clause-spelt : goal.pair-returns-in-Term-clause-spelt
pair-returns-in-Term-clause-spelt t c =
    pair_refused _ _ _ _ c.no_pair.result (λ C h. c.in-Term.ensures.reads.becomes c.args.self.now.names.bytes.now c.args.place.now.names c.args.span (shape C) h.becomes) c.no_pair.ensures.spelt

pub no_pair-returns-clause-spelt : goal.no_pair-returns-clause-spelt
no_pair-returns-clause-spelt t c =
    (c.in_ok-ty.ensures.spelt, refl)

pub def-returns-clause-spelt : goal.def-returns-clause-spelt
def-returns-clause-spelt t c =
    def_spelt c.args.def.now _ c.in_ok-body-2.body c.new.result c.new.ensures.shaped c.in_ok-body-2.ensures.shaped c.span_of.ensures c.as_slice.ensures c.as_slice-2.ensures
    c.in_ok-ty.ensures.resolves.keeps.names c.in_ok-binders.ensures.spelt c.in_ok-ty.ensures.spelt c.in_ok-locals.ensures.spelt c.in_ok-body.ensures.spelt
