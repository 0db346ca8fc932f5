use Rattle.std.proofs.Common.{refl, ap, arith, rules}
use Rattle.trees.specs.declared.op.Op.TheVariants as op
use Rattle.form_rows.proofs.RowLaws.{kept_then, are_none, tree_kept, tree_of_is, is_made, is_of, take_whole, two_fit}
use Rattle.codes.specs.declared.code.Code as codes
use Rattle.codes.specs.declared.code.CodeDef as defs
use Rattle.codes.specs.declared.code.Opened as opens
use Rattle.codes.specs.declared.code.Side as sides
use Rattle.codes.specs.declared.code.LineSide as line_sides
use Rattle.codes.specs.declared.code.PairSide as pair_sides
use Rattle.codes.specs.declared.code.Element as elements
use Rattle.codes.specs.declared.code.Binder as binders
use Rattle.judgement_rows.specs.Words.{applied_tree, code_trees, line_side_trees, pair_side_trees, side_trees, under_trees}
use Rattle.judgement_rows.proofs.Answered.{body_answer, fits_after, made_answer, on_ok, one_more, spells_by, var_answer}
use Rattle.judgement_rows.proofs.Moving.{given, some_after, spells_then}
use Rattle.judgement_rows.proofs.FormSteps.{place_context, some_face, some_name, some_variable, spells_in_name, spells_in_variable, spells_later, spells_map, spells_same, spelt_tree}
use Rattle.judgement_rows.proofs.UnderSteps.{under_all_names}
use Rattle.judgement_rows.proofs.Blocks.{after_block}
use Rattle.judgement_rows.proofs.Arms.{more_rows, one_fits_here, one_made, three_fit_here, three_made, four_fit_here, four_made, comp_fits, comp_made, fill_made, glue_type_fits, glue_type_made, unglue_fits, unglue_made, glue_fits, glue_made, transport_fits, transport_made}
use Rattle.judgement_rows.proofs.CodeForms.{bound_is, defined_is, universe_is, nat_is, zero_is, let_is, suc_is, natrec_is, pi_is, sigma_is, lambda_is, path_lambda_is, apply_is, project_is, tuple_is, path_type_is, comp_is, fill_is, transport_is, glue_type_is, glue_term_is, unglue_is}
use Rattle.judgement_rows.proofs.BindingSteps.{cut_to, over_made, some_defined, some_names, some_within, types_within, under_next, under_start}
use Rattle.judgement_rows.proofs.AppliedSteps.{applied_line_is, applied_more, applied_motive_is, applied_none, argument_applied, argument_is, at_is, codes_next, codes_start, formula_applied, rows_given, under_line_is, under_motive_is}
use Rattle.judgement_rows.proofs.SystemSteps.{line_side_next, line_sides_start, line_system_made, pair_side_next, pair_sides_start, pair_system_made, pairs_known, side_next, sides_known, sides_start, system_made}
use Rattle.judgement_rows.proofs.BlockSteps.{block_next, block_start, block_whole, definition_made}
use Rattle.judgement_rows.proofs.terms.Spelling.+spell.Goals as goal

-- codes by their forms

pub code-returns-in-Bound-clause-spells : goal.code-returns-in-Bound-clause-spells
code-returns-in-Bound-clause-spells g t c =
    var_answer _ _ c.var.result c.in-Bound.index c.var.ensures.kept (bound_is c.in-Bound.span c.in-Bound.index c.in-Bound.is) c.var.ensures.meaning

pub code-returns-in-Defined-clause-spells : goal.code-returns-in-Defined-clause-spells
code-returns-in-Defined-clause-spells g t c =
    body_answer _ _ c.defined.result c.in-Defined.number c.defined.ensures.kept (defined_is c.in-Defined.span c.in-Defined.number c.in-Defined.is) c.defined.ensures.body

pub code-returns-in-Universe-clause-spells : goal.code-returns-in-Universe-clause-spells
code-returns-in-Universe-clause-spells g t c =
    made_answer _ _ c.make.result op.U refl c.make.ensures.kept (universe_is c.in-Universe.span c.in-Universe.is) c.make.ensures.meaning

pub code-returns-in-Nat-clause-spells : goal.code-returns-in-Nat-clause-spells
code-returns-in-Nat-clause-spells g t c =
    made_answer _ _ c.make-in-Nat.result op.Nat refl c.make-in-Nat.ensures.kept (nat_is c.in-Nat.span c.in-Nat.is) c.make-in-Nat.ensures.meaning

pub code-returns-in-Zero-clause-spells : goal.code-returns-in-Zero-clause-spells
code-returns-in-Zero-clause-spells g t c =
    made_answer _ _ c.make-in-Zero.result op.Zero refl c.make-in-Zero.ensures.kept (zero_is c.in-Zero.span c.in-Zero.is) c.make-in-Zero.ensures.meaning

-- codes that bind before a body

pub let_in-block-requires : goal.let_in-block-requires
let_in-block-requires g t c = λ κs l. (search (rules, codes.the_lemmas), (l, c.requires.fits))

pub let_in-code-requires : goal.let_in-code-requires
let_in-code-requires g t c = λ κs l. (search (rules, codes.the_lemmas), (l, some_defined c.requires.fits c.in_ok-block.ensures.defines))

pub let_in-returns-clause-spells : goal.let_in-returns-clause-spells
let_in-returns-clause-spells g t c =
    spells_by (let_is c.in-Let.span c.in-Let.locals c.in-Let.body c.in-Let.is c.deref.ensures.value c.deref-2.ensures)
    (after_block _ _ c.in_ok-block.ensures.defines c.in_ok-row.ensures.spells refl c.leave.ensures.claims (cut_to _ c.mark-mark.ensures c.leave.ensures.bodies))

pub pi-under-requires : goal.pi-under-requires
pi-under-requires g t c = λ κs l. (search (rules, codes.the_lemmas), (l, c.requires.fits))

pub pi-code-requires : goal.pi-code-requires
pi-code-requires g t c = λ κs l. (search (rules, codes.the_lemmas), (l, some_within c.requires.fits c.in_ok-under.ensures.spells))

pub pi-nested-requires-clause-rows : goal.pi-nested-requires-clause-rows
pi-nested-requires-clause-rows g t c = rw c.deref-3.ensures.value (types_within c.requires.fits c.in_ok-under.ensures.spells c.code.ensures.kept)

pub pi-nested-requires-clause-last : goal.pi-nested-requires-clause-last
pi-nested-requires-clause-last g t c = spelt_tree (some_within c.requires.fits c.in_ok-under.ensures.spells) c.in_ok-body.ensures.spells

pub pi-returns-clause-spells : goal.pi-returns-clause-spells
pi-returns-clause-spells g t c =
    spells_by (pi_is c.in-Pi.span c.in-Pi.binders c.in-Pi.body c.in-Pi.is c.deref.ensures.value c.deref-2.ensures)
    (over_made op.Pi _ _ c.in_ok-under.ensures.spells c.in_ok-body.ensures.spells c.nested.ensures.kept (rw c.deref-3.ensures.value at c.in_ok-nested.ensures.nested))

pub sigma-under-requires : goal.sigma-under-requires
sigma-under-requires g t c = λ κs l. (search (rules, codes.the_lemmas), (l, c.requires.fits))

pub sigma-code-requires : goal.sigma-code-requires
sigma-code-requires g t c = λ κs l. (search (rules, codes.the_lemmas), (l, some_within c.requires.fits c.in_ok-under.ensures.spells))

pub sigma-nested-requires-clause-rows : goal.sigma-nested-requires-clause-rows
sigma-nested-requires-clause-rows g t c = rw c.deref-3.ensures.value (types_within c.requires.fits c.in_ok-under.ensures.spells c.code.ensures.kept)

pub sigma-nested-requires-clause-last : goal.sigma-nested-requires-clause-last
sigma-nested-requires-clause-last g t c = spelt_tree (some_within c.requires.fits c.in_ok-under.ensures.spells) c.in_ok-body.ensures.spells

pub sigma-returns-clause-spells : goal.sigma-returns-clause-spells
sigma-returns-clause-spells g t c =
    spells_by (sigma_is c.in-Sigma.span c.in-Sigma.binders c.in-Sigma.body c.in-Sigma.is c.deref.ensures.value c.deref-2.ensures)
    (over_made op.Sig _ _ c.in_ok-under.ensures.spells c.in_ok-body.ensures.spells c.nested.ensures.kept (rw c.deref-3.ensures.value at c.in_ok-nested.ensures.nested))

pub lambda-under-requires : goal.lambda-under-requires
lambda-under-requires g t c = λ κs l. (search (rules, codes.the_lemmas), (l, c.requires.fits))

pub lambda-code-requires : goal.lambda-code-requires
lambda-code-requires g t c = λ κs l. (search (rules, codes.the_lemmas), (l, some_within c.requires.fits c.in_ok-under.ensures.spells))

pub lambda-nested-requires-clause-rows : goal.lambda-nested-requires-clause-rows
lambda-nested-requires-clause-rows g t c = rw c.deref-3.ensures.value (types_within c.requires.fits c.in_ok-under.ensures.spells c.code.ensures.kept)

pub lambda-nested-requires-clause-last : goal.lambda-nested-requires-clause-last
lambda-nested-requires-clause-last g t c = spelt_tree (some_within c.requires.fits c.in_ok-under.ensures.spells) c.in_ok-body.ensures.spells

pub lambda-returns-clause-spells : goal.lambda-returns-clause-spells
lambda-returns-clause-spells g t c =
    spells_by (lambda_is c.in-Lambda.span c.in-Lambda.binders c.in-Lambda.body c.in-Lambda.is c.deref.ensures.value c.deref-2.ensures)
    (over_made op.Lam _ _ c.in_ok-under.ensures.spells c.in_ok-body.ensures.spells c.nested.ensures.kept (rw c.deref-3.ensures.value at c.in_ok-nested.ensures.nested))

pub under-loop-binder-init : goal.under-loop-binder-init
under-loop-binder-init g t c = under_start _ _ _ refl c.new.ensures.items

pub under-code-requires : goal.under-code-requires
under-code-requires g t c = λ κs l. (search (rules, codes.the_lemmas, opens.the_lemmas, sides.the_lemmas, line_sides.the_lemmas, pair_sides.the_lemmas, elements.the_lemmas, binders.the_lemmas), (l, some_within c.requires c.loop-binder.invariant))

pub under-bind-requires-clause-context : goal.under-bind-requires-clause-context
under-bind-requires-clause-context g t c = place_context (some_after (some_within c.requires c.loop-binder.invariant) c.in_ok-ty.ensures.spells)

pub under-bind-requires-clause-ty : goal.under-bind-requires-clause-ty
under-bind-requires-clause-ty g t c = spelt_tree (some_within c.requires c.loop-binder.invariant) c.in_ok-ty.ensures.spells

pub under-loop-binder-preserved : goal.under-loop-binder-preserved
under-loop-binder-preserved g t c =
    under_next _ _ c.binder-item.result (one_more c.args.binders.now c.loop-binder.binder-index c.binder-item.result (omega arith) c.binder-item.is)
    c.loop-binder.invariant c.in_ok-ty.ensures.spells (more_rows c.bind.ensures.kept) c.in_ok-bind.ensures.bound

pub under-returns-clause-spells : goal.under-returns-clause-spells
under-returns-clause-spells g t c =
    spells_by (ap under_trees (take_whole c.args.binders.now c.loop-binder.binder-index (omega arith))) c.loop-binder.invariant

pub path_lambda-under_all-requires : goal.path_lambda-under_all-requires
path_lambda-under_all-requires g t c = place_context c.requires.fits

pub path_lambda-code-requires : goal.path_lambda-code-requires
path_lambda-code-requires g t c =
    λ κs l. (search (rules, codes.the_lemmas), (l, some_names (more_rows c.under_all.ensures.kept) c.in_ok-inner.ensures.named c.requires.fits))

pub path_lambda-under_names-requires : goal.path_lambda-under_names-requires
path_lambda-under_names-requires g t c =
    spelt_tree (some_names (more_rows c.under_all.ensures.kept) c.in_ok-inner.ensures.named c.requires.fits) c.in_ok-body.ensures.spells

pub path_lambda-returns-clause-spells : goal.path_lambda-returns-clause-spells
path_lambda-returns-clause-spells g t c =
    spells_by (path_lambda_is c.in-PathLambda.span c.in-PathLambda.names c.in-PathLambda.body c.in-PathLambda.is c.deref.ensures)
    (under_all_names (more_rows c.under_all.ensures.kept) c.in_ok-inner.ensures.named c.in_ok-body.ensures.spells (more_rows c.under_names.ensures.kept) c.in_ok-under_names.ensures.lambdas)

-- numbers

pub suc-make-requires : goal.suc-make-requires
suc-make-requires g t c = one_fits_here c.in_ok-argument.ensures.spells op.Suc refl c.requires.fits

pub suc-returns-clause-spells : goal.suc-returns-clause-spells
suc-returns-clause-spells g t c =
    spells_by (suc_is c.in-Suc.span c.in-Suc.argument c.in-Suc.is c.deref.ensures)
    (one_made c.in_ok-argument.ensures.spells op.Suc refl c.make.ensures.kept c.in_ok-make.ensures.meaning)

pub natrec-code-requires : goal.natrec-code-requires
natrec-code-requires g t c = λ κs l. (search (rules, codes.the_lemmas), (l, some_after c.requires.fits c.in_ok-motive.ensures.spells))

pub natrec-code-requires-2 : goal.natrec-code-requires-2
natrec-code-requires-2 g t c =
    λ κs l. (search (rules, codes.the_lemmas), (l, some_after (some_after c.requires.fits c.in_ok-motive.ensures.spells) c.in_ok-base.ensures.spells))

pub natrec-code-requires-3 : goal.natrec-code-requires-3
natrec-code-requires-3 g t c =
    λ κs l. (search (rules, codes.the_lemmas), (l, some_after (some_after (some_after c.requires.fits c.in_ok-motive.ensures.spells) c.in_ok-base.ensures.spells) c.in_ok-step.ensures.spells))

pub natrec-make-requires : goal.natrec-make-requires
natrec-make-requires g t c =
    four_fit_here c.in_ok-motive.ensures.spells c.in_ok-base.ensures.spells c.in_ok-step.ensures.spells c.in_ok-argument.ensures.spells op.NatRec refl c.requires.fits

pub natrec-returns-clause-kept : goal.natrec-returns-clause-kept
natrec-returns-clause-kept g t c =
    kept_then c.motive.ensures.kept (kept_then c.code.ensures.kept (kept_then c.code-2.ensures.kept (kept_then c.code-3.ensures.kept c.make.ensures.kept)))

pub natrec-returns-clause-spells : goal.natrec-returns-clause-spells
natrec-returns-clause-spells g t c =
    spells_by (natrec_is c.in-NatRec.span c.in-NatRec.motive c.in-NatRec.base c.in-NatRec.step c.in-NatRec.argument c.in-NatRec.is c.deref.ensures c.deref-2.ensures c.deref-3.ensures c.deref-4.ensures)
    (four_made c.in_ok-motive.ensures.spells c.in_ok-base.ensures.spells c.in_ok-step.ensures.spells c.in_ok-argument.ensures.spells op.NatRec refl c.make.ensures.kept c.in_ok-make.ensures.meaning)

-- what is applied and projected

pub application-applied-requires : goal.application-applied-requires
application-applied-requires g t c =
    λ κs l. (search (rules, codes.the_lemmas), (l, (some_after c.requires.fits c.in_ok-head.ensures.spells, spelt_tree c.requires.fits c.in_ok-head.ensures.spells)))

pub application-returns-clause-spells : goal.application-returns-clause-spells
application-returns-clause-spells g t c =
    spells_by (apply_is c.in-Apply.span c.in-Apply.head c.in-Apply.elements c.in-Apply.is c.deref.ensures c.deref-2.ensures.value)
    (let first = given c.requires.fits c.in_ok-head.ensures.spells in
    let last = c.in_ok-applied.ensures.spells first.0 first.1 in
    spells_then c.in_ok-head.ensures.spells c.in_ok-applied.ensures.spells last.kept last.bodies)

pub projection-projected-requires : goal.projection-projected-requires
projection-projected-requires g t c = spelt_tree c.requires.fits c.in_ok-pair.ensures.spells

pub projection-returns-clause-spells : goal.projection-returns-clause-spells
projection-returns-clause-spells g t c =
    spells_by (project_is c.in-Project.span c.in-Project.pair c.in-Project.projections c.in-Project.is c.deref.ensures c.as_slice.ensures)
    (spells_map _ c.in_ok-pair.ensures.spells (more_rows c.projected.ensures.kept) c.in_ok-projected.ensures.projected)

pub applied-loop-element-init : goal.applied-loop-element-init
applied-loop-element-init g t c = λ x head. applied_none _ _ _ x head

pub applied-applied_to-requires : goal.applied-applied_to-requires
applied-applied_to-requires g t c =
    λ κs l. (search (rules, codes.the_lemmas, opens.the_lemmas, sides.the_lemmas, line_sides.the_lemmas, pair_sides.the_lemmas, elements.the_lemmas, binders.the_lemmas), (l, (some_after c.requires.fits (c.loop-element.invariant c.requires.head.0 (is_of _ _ c.requires.head)), spelt_tree c.requires.fits (c.loop-element.invariant c.requires.head.0 (is_of _ _ c.requires.head)))))

pub applied-loop-element-preserved : goal.applied-loop-element-preserved
applied-loop-element-preserved g t c =
    λ x head. applied_more x _ _ c.element-item.result (one_more c.args.elements.now c.loop-element.element-index c.element-item.result (omega arith) c.element-item.is) c.requires.fits
    (c.loop-element.invariant x head) c.in_ok-row.ensures.spells

pub applied-returns-in_err-row-clause-kept : goal.applied-returns-in_err-row-clause-kept
applied-returns-in_err-row-clause-kept g t c =
    kept_then (c.loop-element.invariant c.requires.head.0 (is_of _ _ c.requires.head)).kept c.applied_to.ensures.kept

pub applied-returns-clause-kept : goal.applied-returns-clause-kept
applied-returns-clause-kept g t c = (c.loop-element.invariant c.requires.head.0 (is_of _ _ c.requires.head)).kept

pub applied-returns-clause-spells : goal.applied-returns-clause-spells
applied-returns-clause-spells g t c =
    λ x head. spells_by (ap (applied_tree x) (take_whole c.args.elements.now c.loop-element.element-index (omega arith))) (c.loop-element.invariant x head)

pub applied_to-make-requires : goal.applied_to-make-requires
applied_to-make-requires g t c =
    two_fit (g.M.Rows.means c.code.new.maker) c.args.head c.in_ok-argument-in-Argument.argument op.App refl (tree_kept (g.M.Rows.means c.args.maker.now) (g.M.Rows.means c.code.new.maker) c.args.head c.code.ensures.kept c.requires.head) (spelt_tree c.requires.fits c.in_ok-argument-in-Argument.ensures.spells)

pub applied_to-returns-in_ok-make-in-Argument-clause-spells : goal.applied_to-returns-in_ok-make-in-Argument-clause-spells
applied_to-returns-in_ok-make-in-Argument-clause-spells g t c =
    λ x head. spells_by (argument_is c.in-Argument.code x c.in-Argument.is refl)
    (argument_applied x c.in_ok-argument-in-Argument.ensures.spells head c.make.ensures.kept c.in_ok-make-in-Argument.ensures.meaning)

pub applied_to-make-requires-in-At : goal.applied_to-make-requires-in-At
applied_to-make-requires-in-At g t c =
    two_fit (g.M.Rows.means c.formula.new.maker) c.args.head c.in_ok-at-in-At.at op.PApp refl (tree_kept (g.M.Rows.means c.args.maker.now) (g.M.Rows.means c.formula.new.maker) c.args.head c.formula.ensures.kept c.requires.head) (tree_of_is (g.M.Rows.means c.formula.new.maker) c.in_ok-at-in-At.at c.in_ok-at-in-At.ensures.tree)

pub applied_to-returns-in_ok-make-in-At-clause-spells : goal.applied_to-returns-in_ok-make-in-At-clause-spells
applied_to-returns-in_ok-make-in-At-clause-spells g t c =
    λ x head. spells_same (λ H. at_is c.in-At.field-0 c.in-At.at x H c.in-At.is refl)
    (formula_applied x _ (more_rows c.formula.ensures.kept) c.in_ok-at-in-At.ensures.tree head c.make-in-At.ensures.kept c.in_ok-make-in-At.ensures.meaning)

-- codes in order

pub codes-loop-code-init : goal.codes-loop-code-init
codes-loop-code-init g t c = codes_start _ _ c.new-rows.ensures.items

pub codes-code-requires : goal.codes-code-requires
codes-code-requires g t c = λ κs l. (search (rules, codes.the_lemmas, opens.the_lemmas, sides.the_lemmas, line_sides.the_lemmas, pair_sides.the_lemmas, elements.the_lemmas, binders.the_lemmas), (l, some_after c.requires c.loop-code.invariant))

pub codes-loop-code-preserved : goal.codes-loop-code-preserved
codes-loop-code-preserved g t c =
    codes_next c.in_ok-push.ensures.items _ _ c.code-item.result (one_more c.args.codes.now c.loop-code.code-index c.code-item.result (omega arith) c.code-item.is) c.loop-code.invariant c.in_ok-code.ensures.spells

pub codes-returns-clause-spells : goal.codes-returns-clause-spells
codes-returns-clause-spells g t c =
    spells_by (ap code_trees (take_whole c.args.codes.now c.loop-code.code-index (omega arith))) c.loop-code.invariant

pub tuple-codes-requires : goal.tuple-codes-requires
tuple-codes-requires g t c = λ κs l. (search (rules, codes.the_lemmas), (l, c.requires.fits))

pub tuple-tupled-requires-clause-rows : goal.tuple-tupled-requires-clause-rows
tuple-tupled-requires-clause-rows g t c = rw c.deref-2.ensures.value (rows_given c.requires.fits c.in_ok-components.ensures.spells)

pub tuple-returns-clause-spells : goal.tuple-returns-clause-spells
tuple-returns-clause-spells g t c =
    spells_same (λ H. tuple_is c.in-Tuple.span c.in-Tuple.components H c.in-Tuple.is c.deref.ensures.value)
    (spells_map _ c.in_ok-components.ensures.spells (more_rows c.tupled.ensures.kept) (rw c.deref-2.ensures.value at c.in_ok-tupled.ensures.nested))

-- lines, types of paths, and compositions

pub line-under_name-requires : goal.line-under_name-requires
line-under_name-requires g t c = place_context c.requires

pub line-code-requires : goal.line-code-requires
line-code-requires g t c =
    λ κs l. (search (rules, codes.the_lemmas, opens.the_lemmas, sides.the_lemmas, line_sides.the_lemmas, pair_sides.the_lemmas, elements.the_lemmas, binders.the_lemmas), (l, some_name (more_rows c.under_name.ensures.kept) c.in_ok-inner-in-Under.ensures.named c.requires))

pub line-returns-in_ok-code-in-Under-clause-spells : goal.line-returns-in_ok-code-in-Under-clause-spells
line-returns-in_ok-code-in-Under-clause-spells g t c =
    spells_by (under_line_is c.in-Under.field-0 c.in-Under.code c.in-Under.is refl)
    (spells_in_name (more_rows c.under_name.ensures.kept) c.in_ok-inner-in-Under.ensures.named c.in_ok-code-in-Under.ensures.spells)

pub line-applied_inside-requires-clause-tree : goal.line-applied_inside-requires-clause-tree
line-applied_inside-requires-clause-tree g t c = spelt_tree c.requires c.in_ok-row-in-Applied.ensures.spells

pub line-returns-in_ok-applied_inside-in-Applied-clause-spells : goal.line-returns-in_ok-applied_inside-in-Applied-clause-spells
line-returns-in_ok-applied_inside-in-Applied-clause-spells g t c =
    spells_by (applied_line_is c.in-Applied.field-0 c.in-Applied.code c.in-Applied.is refl)
    (spells_map _ c.in_ok-row-in-Applied.ensures.spells (more_rows c.applied_inside.ensures.kept) c.in_ok-applied_inside-in-Applied.ensures.applied)

pub motive-under_variable-requires-clause-context : goal.motive-under_variable-requires-clause-context
motive-under_variable-requires-clause-context g t c = place_context (fits_after c.make.ensures.kept c.requires)

pub motive-under_variable-requires-clause-ty : goal.motive-under_variable-requires-clause-ty
motive-under_variable-requires-clause-ty g t c = tree_of_is (g.M.Rows.means c.make.new.self) c.in_ok-nat-in-Under.nat (is_made op.Nat refl (are_none (g.M.Rows.means c.args.maker.now)) c.in_ok-nat-in-Under.ensures.meaning)

pub motive-code-requires : goal.motive-code-requires
motive-code-requires g t c =
    λ κs l. (search (rules, codes.the_lemmas, opens.the_lemmas, sides.the_lemmas, line_sides.the_lemmas, pair_sides.the_lemmas, elements.the_lemmas, binders.the_lemmas), (l, some_variable (more_rows c.under_variable.ensures.kept) c.in_ok-inner-in-Under.ensures.opened (tree_of_is (g.M.Rows.means c.make.new.self) c.in_ok-nat-in-Under.nat (is_made op.Nat refl (are_none (g.M.Rows.means c.args.maker.now)) c.in_ok-nat-in-Under.ensures.meaning)) (fits_after c.make.ensures.kept c.requires)))

pub motive-returns-in_ok-code-in-Under-clause-spells : goal.motive-returns-in_ok-code-in-Under-clause-spells
motive-returns-in_ok-code-in-Under-clause-spells g t c =
    spells_by (under_motive_is c.in-Under.field-0 c.in-Under.code c.in-Under.is refl)
    (spells_later (more_rows c.make.ensures.kept)
    (spells_in_variable (more_rows c.under_variable.ensures.kept) c.in_ok-inner-in-Under.ensures.opened (is_made op.Nat refl (are_none (g.M.Rows.means c.args.maker.now)) c.in_ok-nat-in-Under.ensures.meaning) c.in_ok-code-in-Under.ensures.spells))

pub motive-applied_inside-requires-clause-tree : goal.motive-applied_inside-requires-clause-tree
motive-applied_inside-requires-clause-tree g t c = spelt_tree c.requires c.in_ok-row-in-Applied.ensures.spells

pub motive-returns-in_ok-applied_inside-in-Applied-clause-spells : goal.motive-returns-in_ok-applied_inside-in-Applied-clause-spells
motive-returns-in_ok-applied_inside-in-Applied-clause-spells g t c =
    spells_by (applied_motive_is c.in-Applied.field-0 c.in-Applied.code c.in-Applied.is refl)
    (spells_map _ c.in_ok-row-in-Applied.ensures.spells (more_rows c.applied_inside.ensures.kept) c.in_ok-applied_inside-in-Applied.ensures.applied)

pub path_type-code-requires : goal.path_type-code-requires
path_type-code-requires g t c = λ κs l. (search (rules, codes.the_lemmas), (l, some_after c.requires.fits c.in_ok-line.ensures.spells))

pub path_type-code-requires-2 : goal.path_type-code-requires-2
path_type-code-requires-2 g t c =
    λ κs l. (search (rules, codes.the_lemmas), (l, some_after (some_after c.requires.fits c.in_ok-line.ensures.spells) c.in_ok-left.ensures.spells))

pub path_type-make-requires : goal.path_type-make-requires
path_type-make-requires g t c =
    three_fit_here c.in_ok-line.ensures.spells c.in_ok-left.ensures.spells c.in_ok-right.ensures.spells op.PathP refl c.requires.fits

pub path_type-returns-clause-kept : goal.path_type-returns-clause-kept
path_type-returns-clause-kept g t c =
    kept_then c.line.ensures.kept (kept_then c.code.ensures.kept (kept_then c.code-2.ensures.kept c.make.ensures.kept))

pub path_type-returns-clause-spells : goal.path_type-returns-clause-spells
path_type-returns-clause-spells g t c =
    spells_by (path_type_is c.in-PathP.span c.in-PathP.line c.in-PathP.left c.in-PathP.right c.in-PathP.is c.deref.ensures c.deref-2.ensures c.deref-3.ensures)
    (three_made c.in_ok-line.ensures.spells c.in_ok-left.ensures.spells c.in_ok-right.ensures.spells op.PathP refl c.make.ensures.kept c.in_ok-make.ensures.meaning)

pub comp-code-requires : goal.comp-code-requires
comp-code-requires g t c = λ κs l. (search (rules, codes.the_lemmas), (l, some_after c.requires.fits c.in_ok-line.ensures.spells))

pub comp-line_sides-requires : goal.comp-line_sides-requires
comp-line_sides-requires g t c =
    λ κs l. (search (rules, codes.the_lemmas), (l, some_after (some_after c.requires.fits c.in_ok-line.ensures.spells) c.in_ok-base.ensures.spells))

pub comp-make-requires : goal.comp-make-requires
comp-make-requires g t c =
    comp_fits c.in_ok-line.ensures.spells c.in_ok-base.ensures.spells c.in_ok-system.ensures.spells c.requires.fits

pub comp-returns-clause-spells : goal.comp-returns-clause-spells
comp-returns-clause-spells g t c =
    spells_by (comp_is c.in-Comp.span c.in-Comp.line c.in-Comp.base c.in-Comp.sides c.in-Comp.is c.deref.ensures c.deref-2.ensures c.deref-3.ensures.value)
    (comp_made c.in_ok-line.ensures.spells c.in_ok-base.ensures.spells c.in_ok-system.ensures.spells c.make.ensures.kept c.in_ok-make.ensures.meaning)

pub fill-code-requires : goal.fill-code-requires
fill-code-requires g t c = λ κs l. (search (rules, codes.the_lemmas), (l, some_after c.requires.fits c.in_ok-line.ensures.spells))

pub fill-line_sides-requires : goal.fill-line_sides-requires
fill-line_sides-requires g t c =
    λ κs l. (search (rules, codes.the_lemmas), (l, some_after (some_after c.requires.fits c.in_ok-line.ensures.spells) c.in_ok-base.ensures.spells))

pub fill-filling-requires-clause-line : goal.fill-filling-requires-clause-line
fill-filling-requires-clause-line g t c =
    tree_kept _ _ _ (kept_then c.code.ensures.kept c.line_sides.ensures.kept) (spelt_tree c.requires.fits c.in_ok-line.ensures.spells)

pub fill-filling-requires-clause-cover : goal.fill-filling-requires-clause-cover
fill-filling-requires-clause-cover g t c =
    tree_of_is _ _ (given (some_after (some_after c.requires.fits c.in_ok-line.ensures.spells) c.in_ok-base.ensures.spells) c.in_ok-system.ensures.spells).1.cover

pub fill-filling-requires-clause-body : goal.fill-filling-requires-clause-body
fill-filling-requires-clause-body g t c =
    tree_of_is _ _ (given (some_after (some_after c.requires.fits c.in_ok-line.ensures.spells) c.in_ok-base.ensures.spells) c.in_ok-system.ensures.spells).1.body

pub fill-filling-requires-clause-base : goal.fill-filling-requires-clause-base
fill-filling-requires-clause-base g t c =
    tree_kept _ _ _ c.line_sides.ensures.kept (spelt_tree (some_after c.requires.fits c.in_ok-line.ensures.spells) c.in_ok-base.ensures.spells)

pub fill-returns-clause-spells : goal.fill-returns-clause-spells
fill-returns-clause-spells g t c =
    spells_by (fill_is c.in-Fill.span c.in-Fill.line c.in-Fill.base c.in-Fill.sides c.in-Fill.is c.deref.ensures c.deref-2.ensures c.deref-3.ensures.value)
    (fill_made c.in_ok-line.ensures.spells c.in_ok-base.ensures.spells c.in_ok-system.ensures.spells c.filling.ensures.kept c.in_ok-filling.ensures.fills)

pub transport-code-requires : goal.transport-code-requires
transport-code-requires g t c = λ κs l. (search (rules, codes.the_lemmas), (l, some_after c.requires.fits c.in_ok-line.ensures.spells))

pub transport-make-requires-3 : goal.transport-make-requires-3
transport-make-requires-3 g t c =
    transport_fits c.in_ok-line.ensures.spells c.in_ok-base.ensures.spells c.make.ensures.kept c.in_ok-cover.ensures.meaning c.make-2.ensures.kept c.in_ok-body.ensures.meaning c.requires.fits

pub transport-returns-clause-kept : goal.transport-returns-clause-kept
transport-returns-clause-kept g t c =
    kept_then c.line.ensures.kept (kept_then c.code.ensures.kept (kept_then c.make.ensures.kept (kept_then c.make-2.ensures.kept c.make-3.ensures.kept)))

pub transport-returns-clause-spells : goal.transport-returns-clause-spells
transport-returns-clause-spells g t c =
    spells_by (transport_is c.in-Transport.span c.in-Transport.line c.in-Transport.base c.in-Transport.is c.deref.ensures c.deref-2.ensures)
    (transport_made c.in_ok-line.ensures.spells c.in_ok-base.ensures.spells c.make.ensures.kept c.in_ok-cover.ensures.meaning c.make-2.ensures.kept c.in_ok-body.ensures.meaning c.make-3.ensures.kept c.in_ok-make.ensures.meaning)

-- glueing

pub glue_type-pair_sides-requires : goal.glue_type-pair_sides-requires
glue_type-pair_sides-requires g t c = λ κs l. (search (rules, codes.the_lemmas), (l, some_after c.requires.fits c.in_ok-base.ensures.spells))

pub glue_type-make-requires : goal.glue_type-make-requires
glue_type-make-requires g t c = glue_type_fits c.in_ok-base.ensures.spells c.in_ok-pairs.ensures.spells c.requires.fits

pub glue_type-returns-clause-spells : goal.glue_type-returns-clause-spells
glue_type-returns-clause-spells g t c =
    spells_by (glue_type_is c.in-GlueType.span c.in-GlueType.base c.in-GlueType.sides c.in-GlueType.is c.deref.ensures c.deref-2.ensures.value)
    (glue_type_made c.in_ok-base.ensures.spells c.in_ok-pairs.ensures.spells c.make.ensures.kept c.in_ok-make.ensures.meaning)

pub glue_term-sides-requires : goal.glue_term-sides-requires
glue_term-sides-requires g t c = λ κs l. (search (rules, codes.the_lemmas), (l, some_after c.requires.fits c.in_ok-base.ensures.spells))

pub glue_term-make-requires : goal.glue_term-make-requires
glue_term-make-requires g t c = glue_fits c.in_ok-base.ensures.spells c.in_ok-system.ensures.spells c.requires.fits

pub glue_term-returns-clause-spells : goal.glue_term-returns-clause-spells
glue_term-returns-clause-spells g t c =
    spells_by (glue_term_is c.in-GlueTerm.span c.in-GlueTerm.base c.in-GlueTerm.sides c.in-GlueTerm.is c.deref.ensures c.deref-2.ensures.value)
    (glue_made c.in_ok-base.ensures.spells c.in_ok-system.ensures.spells c.make.ensures.kept c.in_ok-make.ensures.meaning)

pub unglue-pair_sides-requires : goal.unglue-pair_sides-requires
unglue-pair_sides-requires g t c = λ κs l. (search (rules, codes.the_lemmas), (l, some_after c.requires.fits c.in_ok-base.ensures.spells))

pub unglue-make-requires : goal.unglue-make-requires
unglue-make-requires g t c = unglue_fits c.in_ok-base.ensures.spells c.in_ok-pairs.ensures.spells c.requires.fits

pub unglue-returns-clause-spells : goal.unglue-returns-clause-spells
unglue-returns-clause-spells g t c =
    spells_by (unglue_is c.in-Unglue.span c.in-Unglue.base c.in-Unglue.sides c.in-Unglue.is c.deref.ensures c.deref-2.ensures.value)
    (unglue_made c.in_ok-base.ensures.spells c.in_ok-pairs.ensures.spells c.make.ensures.kept c.in_ok-make.ensures.meaning)

-- sides

pub sides-loop-side-init : goal.sides-loop-side-init
sides-loop-side-init g t c = sides_start _ _ c.new-rows.ensures.faces c.new-rows.ensures.values

pub sides-under_equations-requires : goal.sides-under_equations-requires
sides-under_equations-requires g t c = place_context (some_after c.requires c.loop-side.invariant)

pub sides-code-requires : goal.sides-code-requires
sides-code-requires g t c =
    λ κs l. (search (rules, codes.the_lemmas, opens.the_lemmas, sides.the_lemmas, line_sides.the_lemmas, pair_sides.the_lemmas, elements.the_lemmas, binders.the_lemmas), (l, some_face (more_rows c.under_equations.ensures.kept) c.in_ok-faced.ensures.hold (some_after c.requires c.loop-side.invariant)))

pub sides-loop-side-preserved : goal.sides-loop-side-preserved
sides-loop-side-preserved g t c =
    side_next (more_rows c.under_equations.ensures.kept) _ _ c.side-item.result (one_more c.args.sides.now c.loop-side.side-index c.side-item.result (omega arith) c.side-item.is)
    (rw c.deref.ensures.value at c.in_ok-faced.ensures.hold)
    c.in_ok-push.ensures.faces c.in_ok-push.ensures.values c.loop-side.invariant c.in_ok-value.ensures.spells

pub sides-system-requires : goal.sides-system-requires
sides-system-requires g t c = sides_known c.loop-side.rows c.loop-side.invariant c.requires

pub sides-returns-clause-spells : goal.sides-returns-clause-spells
sides-returns-clause-spells g t c =
    system_made c.loop-side.rows c.loop-side.invariant c.system.result (ap side_trees (take_whole c.args.sides.now c.loop-side.side-index (omega arith))) c.system.ensures.kept c.system.ensures.system

pub line_sides-loop-side-init : goal.line_sides-loop-side-init
line_sides-loop-side-init g t c = line_sides_start _ _ c.new-rows.ensures.faces c.new-rows.ensures.values

pub line_sides-under_equations-requires : goal.line_sides-under_equations-requires
line_sides-under_equations-requires g t c = place_context (some_after c.requires c.loop-side.invariant)

pub line_sides-line-requires : goal.line_sides-line-requires
line_sides-line-requires g t c =
    λ κs l. (search (rules, codes.the_lemmas, opens.the_lemmas, sides.the_lemmas, line_sides.the_lemmas, pair_sides.the_lemmas, elements.the_lemmas, binders.the_lemmas), (l, some_face (more_rows c.under_equations.ensures.kept) c.in_ok-faced.ensures.hold (some_after c.requires c.loop-side.invariant)))

pub line_sides-loop-side-preserved : goal.line_sides-loop-side-preserved
line_sides-loop-side-preserved g t c =
    line_side_next (more_rows c.under_equations.ensures.kept) _ _ c.side-item.result (one_more c.args.sides.now c.loop-side.side-index c.side-item.result (omega arith) c.side-item.is)
    (rw c.deref.ensures.value at c.in_ok-faced.ensures.hold)
    c.in_ok-push.ensures.faces c.in_ok-push.ensures.values c.loop-side.invariant c.in_ok-value.ensures.spells

pub line_sides-line_system-requires : goal.line_sides-line_system-requires
line_sides-line_system-requires g t c = sides_known c.loop-side.rows c.loop-side.invariant c.requires

pub line_sides-returns-clause-spells : goal.line_sides-returns-clause-spells
line_sides-returns-clause-spells g t c =
    line_system_made c.loop-side.rows c.loop-side.invariant c.line_system.result (ap line_side_trees (take_whole c.args.sides.now c.loop-side.side-index (omega arith))) c.line_system.ensures.kept c.line_system.ensures.system

pub pair_sides-loop-side-init : goal.pair_sides-loop-side-init
pair_sides-loop-side-init g t c = pair_sides_start _ _ c.new-rows.ensures.faces c.new-rows.ensures.types c.new-rows.ensures.equivalences

pub pair_sides-under_equations-requires : goal.pair_sides-under_equations-requires
pair_sides-under_equations-requires g t c = place_context (some_after c.requires c.loop-side.invariant)

pub pair_sides-code-requires : goal.pair_sides-code-requires
pair_sides-code-requires g t c =
    λ κs l. (search (rules, codes.the_lemmas, opens.the_lemmas, sides.the_lemmas, line_sides.the_lemmas, pair_sides.the_lemmas, elements.the_lemmas, binders.the_lemmas), (l, some_face (more_rows c.under_equations.ensures.kept) c.in_ok-faced.ensures.hold (some_after c.requires c.loop-side.invariant)))

pub pair_sides-code-requires-in-loop-side : goal.pair_sides-code-requires-in-loop-side
pair_sides-code-requires-in-loop-side g t c =
    λ κs l. (search (rules, codes.the_lemmas, opens.the_lemmas, sides.the_lemmas, line_sides.the_lemmas, pair_sides.the_lemmas, elements.the_lemmas, binders.the_lemmas), (l, some_after (some_face (more_rows c.under_equations.ensures.kept) c.in_ok-faced.ensures.hold (some_after c.requires c.loop-side.invariant)) c.in_ok-ty.ensures.spells))

pub pair_sides-loop-side-preserved : goal.pair_sides-loop-side-preserved
pair_sides-loop-side-preserved g t c =
    pair_side_next (more_rows c.under_equations.ensures.kept) _ _ c.side-item.result (one_more c.args.sides.now c.loop-side.side-index c.side-item.result (omega arith) c.side-item.is)
    (rw c.deref.ensures.value at c.in_ok-faced.ensures.hold)
    c.in_ok-push.ensures.faces c.in_ok-push.ensures.types c.in_ok-push.ensures.equivalences c.loop-side.invariant c.in_ok-ty.ensures.spells c.in_ok-equivalence.ensures.spells

pub pair_sides-system-requires : goal.pair_sides-system-requires
pair_sides-system-requires g t c = pairs_known c.loop-side.rows c.loop-side.invariant c.requires

pub pair_sides-returns-clause-spells : goal.pair_sides-returns-clause-spells
pair_sides-returns-clause-spells g t c =
    pair_system_made c.loop-side.rows c.loop-side.invariant c.system.result (ap pair_side_trees (take_whole c.args.sides.now c.loop-side.side-index (omega arith))) c.system.ensures.kept c.system.ensures.system

-- definitions

pub block-loop-def-init : goal.block-loop-def-init
block-loop-def-init g t c = block_start _ _

pub block-definition-requires : goal.block-definition-requires
block-definition-requires g t c = λ κs l. (search (rules, codes.the_lemmas, defs.the_lemmas), (l, some_defined c.requires c.loop-def.invariant))

pub block-loop-def-preserved : goal.block-loop-def-preserved
block-loop-def-preserved g t c =
    block_next _ _ c.def-item.result (one_more c.args.defs.now c.loop-def.def-index c.def-item.result (omega arith) c.def-item.is) c.loop-def.invariant c.in_ok-definition.ensures.defines

pub block-returns-clause-defines : goal.block-returns-clause-defines
block-returns-clause-defines g t c =
    block_whole c.args.defs.now c.loop-def.def-index (omega arith) c.loop-def.invariant

pub definition-code-requires : goal.definition-code-requires
definition-code-requires g t c = λ κs l. (search (rules, codes.the_lemmas, defs.the_lemmas), (l, some_within c.requires c.in_ok-under.ensures.spells))

pub definition-code-requires-2 : goal.definition-code-requires-2
definition-code-requires-2 g t c =
    λ κs l. (search (rules, codes.the_lemmas, defs.the_lemmas), (l, some_after (some_within c.requires c.in_ok-under.ensures.spells) c.in_ok-ty.ensures.spells))

pub definition-define-requires-clause-types : goal.definition-define-requires-clause-types
definition-define-requires-clause-types g t c =
    rw c.deref-2.ensures.value (types_within c.requires c.in_ok-under.ensures.spells (kept_then c.code.ensures.kept c.code-2.ensures.kept))

pub definition-define-requires-clause-ty : goal.definition-define-requires-clause-ty
definition-define-requires-clause-ty g t c =
    tree_kept _ _ _ c.code-2.ensures.kept (spelt_tree (some_within c.requires c.in_ok-under.ensures.spells) c.in_ok-ty.ensures.spells)

pub definition-define-requires-clause-body : goal.definition-define-requires-clause-body
definition-define-requires-clause-body g t c =
    spelt_tree (some_after (some_within c.requires c.in_ok-under.ensures.spells) c.in_ok-ty.ensures.spells) c.in_ok-body.ensures.spells

pub definition-returns-clause-defines : goal.definition-returns-clause-defines
definition-returns-clause-defines g t c =
    on_ok c.define.result (definition_made c.args.def.now (rw c.deref.ensures.value at c.in_ok-under.ensures.spells) c.in_ok-ty.ensures.spells c.in_ok-body.ensures.spells c.define.ensures.kept)
    (rw c.deref-2.ensures.value at c.define.ensures.defines)

-- what rows meant they go on to mean, call after call

pub comp-returns-in_err-base-clause-kept : goal.comp-returns-in_err-base-clause-kept
comp-returns-in_err-base-clause-kept g t c = kept_then c.line.ensures.kept c.code.ensures.kept

pub comp-returns-in_err-system-clause-kept : goal.comp-returns-in_err-system-clause-kept
comp-returns-in_err-system-clause-kept g t c = kept_then c.line.ensures.kept (kept_then c.code.ensures.kept c.line_sides.ensures.kept)

pub comp-returns-in_err-make-clause-kept : goal.comp-returns-in_err-make-clause-kept
comp-returns-in_err-make-clause-kept g t c = kept_then c.line.ensures.kept (kept_then c.code.ensures.kept (kept_then c.line_sides.ensures.kept c.make.ensures.kept))

pub comp-returns-clause-kept : goal.comp-returns-clause-kept
comp-returns-clause-kept g t c = kept_then c.line.ensures.kept (kept_then c.code.ensures.kept (kept_then c.line_sides.ensures.kept c.make.ensures.kept))

pub fill-returns-in_err-base-clause-kept : goal.fill-returns-in_err-base-clause-kept
fill-returns-in_err-base-clause-kept g t c = kept_then c.line.ensures.kept c.code.ensures.kept

pub fill-returns-in_err-system-clause-kept : goal.fill-returns-in_err-system-clause-kept
fill-returns-in_err-system-clause-kept g t c = kept_then c.line.ensures.kept (kept_then c.code.ensures.kept c.line_sides.ensures.kept)

pub fill-returns-in_err-filling-clause-kept : goal.fill-returns-in_err-filling-clause-kept
fill-returns-in_err-filling-clause-kept g t c = kept_then c.line.ensures.kept (kept_then c.code.ensures.kept (kept_then c.line_sides.ensures.kept c.filling.ensures.kept))

pub fill-returns-clause-kept : goal.fill-returns-clause-kept
fill-returns-clause-kept g t c = kept_then c.line.ensures.kept (kept_then c.code.ensures.kept (kept_then c.line_sides.ensures.kept c.filling.ensures.kept))

pub glue_type-returns-in_err-make-clause-kept : goal.glue_type-returns-in_err-make-clause-kept
glue_type-returns-in_err-make-clause-kept g t c = kept_then c.code.ensures.kept (kept_then c.pair_sides.ensures.kept c.make.ensures.kept)

pub glue_type-returns-clause-kept : goal.glue_type-returns-clause-kept
glue_type-returns-clause-kept g t c = kept_then c.code.ensures.kept (kept_then c.pair_sides.ensures.kept c.make.ensures.kept)

pub glue_term-returns-in_err-make-clause-kept : goal.glue_term-returns-in_err-make-clause-kept
glue_term-returns-in_err-make-clause-kept g t c = kept_then c.code.ensures.kept (kept_then c.sides.ensures.kept c.make.ensures.kept)

pub glue_term-returns-clause-kept : goal.glue_term-returns-clause-kept
glue_term-returns-clause-kept g t c = kept_then c.code.ensures.kept (kept_then c.sides.ensures.kept c.make.ensures.kept)

pub unglue-returns-in_err-make-clause-kept : goal.unglue-returns-in_err-make-clause-kept
unglue-returns-in_err-make-clause-kept g t c = kept_then c.code.ensures.kept (kept_then c.pair_sides.ensures.kept c.make.ensures.kept)

pub unglue-returns-clause-kept : goal.unglue-returns-clause-kept
unglue-returns-clause-kept g t c = kept_then c.code.ensures.kept (kept_then c.pair_sides.ensures.kept c.make.ensures.kept)

pub pi-returns-in_err-nested-clause-kept : goal.pi-returns-in_err-nested-clause-kept
pi-returns-in_err-nested-clause-kept g t c = kept_then c.under.ensures.kept (kept_then c.code.ensures.kept c.nested.ensures.kept)

pub pi-returns-clause-kept : goal.pi-returns-clause-kept
pi-returns-clause-kept g t c = kept_then c.under.ensures.kept (kept_then c.code.ensures.kept c.nested.ensures.kept)

pub sigma-returns-in_err-nested-clause-kept : goal.sigma-returns-in_err-nested-clause-kept
sigma-returns-in_err-nested-clause-kept g t c = kept_then c.under.ensures.kept (kept_then c.code.ensures.kept c.nested.ensures.kept)

pub sigma-returns-clause-kept : goal.sigma-returns-clause-kept
sigma-returns-clause-kept g t c = kept_then c.under.ensures.kept (kept_then c.code.ensures.kept c.nested.ensures.kept)

pub lambda-returns-in_err-nested-clause-kept : goal.lambda-returns-in_err-nested-clause-kept
lambda-returns-in_err-nested-clause-kept g t c = kept_then c.under.ensures.kept (kept_then c.code.ensures.kept c.nested.ensures.kept)

pub lambda-returns-clause-kept : goal.lambda-returns-clause-kept
lambda-returns-clause-kept g t c = kept_then c.under.ensures.kept (kept_then c.code.ensures.kept c.nested.ensures.kept)

pub natrec-returns-in_err-base-clause-kept : goal.natrec-returns-in_err-base-clause-kept
natrec-returns-in_err-base-clause-kept g t c = kept_then c.motive.ensures.kept c.code.ensures.kept

pub natrec-returns-in_err-step-clause-kept : goal.natrec-returns-in_err-step-clause-kept
natrec-returns-in_err-step-clause-kept g t c = kept_then c.motive.ensures.kept (kept_then c.code.ensures.kept c.code-2.ensures.kept)

pub natrec-returns-in_err-argument-clause-kept : goal.natrec-returns-in_err-argument-clause-kept
natrec-returns-in_err-argument-clause-kept g t c = kept_then c.motive.ensures.kept (kept_then c.code.ensures.kept (kept_then c.code-2.ensures.kept c.code-3.ensures.kept))

pub natrec-returns-in_err-make-clause-kept : goal.natrec-returns-in_err-make-clause-kept
natrec-returns-in_err-make-clause-kept g t c = kept_then c.motive.ensures.kept (kept_then c.code.ensures.kept (kept_then c.code-2.ensures.kept (kept_then c.code-3.ensures.kept c.make.ensures.kept)))

pub path_type-returns-in_err-right-clause-kept : goal.path_type-returns-in_err-right-clause-kept
path_type-returns-in_err-right-clause-kept g t c = kept_then c.line.ensures.kept (kept_then c.code.ensures.kept c.code-2.ensures.kept)

pub path_type-returns-in_err-make-clause-kept : goal.path_type-returns-in_err-make-clause-kept
path_type-returns-in_err-make-clause-kept g t c = kept_then c.line.ensures.kept (kept_then c.code.ensures.kept (kept_then c.code-2.ensures.kept c.make.ensures.kept))

pub transport-returns-in_err-make-clause-kept : goal.transport-returns-in_err-make-clause-kept
transport-returns-in_err-make-clause-kept g t c = kept_then c.line.ensures.kept (kept_then c.code.ensures.kept (kept_then c.make.ensures.kept (kept_then c.make-2.ensures.kept c.make-3.ensures.kept)))

pub sides-returns-in_err-push-clause-kept : goal.sides-returns-in_err-push-clause-kept
sides-returns-in_err-push-clause-kept g t c = kept_then c.loop-side.invariant.kept (kept_then c.under_equations.ensures.kept c.code.ensures.kept)

pub line_sides-returns-in_err-push-clause-kept : goal.line_sides-returns-in_err-push-clause-kept
line_sides-returns-in_err-push-clause-kept g t c = kept_then c.loop-side.invariant.kept (kept_then c.under_equations.ensures.kept c.line.ensures.kept)

pub pair_sides-returns-in_err-equivalence-clause-kept : goal.pair_sides-returns-in_err-equivalence-clause-kept
pair_sides-returns-in_err-equivalence-clause-kept g t c = kept_then c.loop-side.invariant.kept (kept_then c.under_equations.ensures.kept (kept_then c.code.ensures.kept c.code-in-loop-side.ensures.kept))

pub pair_sides-returns-in_err-push-clause-kept : goal.pair_sides-returns-in_err-push-clause-kept
pair_sides-returns-in_err-push-clause-kept g t c = kept_then c.loop-side.invariant.kept (kept_then c.under_equations.ensures.kept (kept_then c.code.ensures.kept c.code-in-loop-side.ensures.kept))
