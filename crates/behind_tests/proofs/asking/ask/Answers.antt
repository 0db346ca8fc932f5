use Rattle.typed_nodes.proofs.TypeLaws.{is_node}
use Rattle.behind_tests.proofs.AskLaws.{type_said, equal_types_said, term_said, equal_terms_said, substitution_said}
use Rattle.behind_tests.proofs.asking.ask.Goals as goal

pub conclusion-requires : goal.conclusion-requires
conclusion-requires c =
    let (J, says) = c.requires in
    is_node c.args.book.now c.args.node J says

pub ask_type-requires : goal.ask_type-requires
ask_type-requires c =
    let (J, says) = c.requires in
    type_said c.args.book.now c.args.node c.conclusion.result J c.conclusion.ensures says _ _ c.in-Ty.is

pub ask_equal_types-requires : goal.ask_equal_types-requires
ask_equal_types-requires c =
    let (J, says) = c.requires in
    equal_types_said c.args.book.now c.args.node c.conclusion.result J c.conclusion.ensures says _ _ _ c.in-TyEq.is

pub ask_term-requires : goal.ask_term-requires
ask_term-requires c =
    let (J, says) = c.requires in
    term_said c.args.book.now c.args.node c.conclusion.result J c.conclusion.ensures says _ _ _ c.in-Tm.is

pub ask_equal_terms-requires : goal.ask_equal_terms-requires
ask_equal_terms-requires c =
    let (J, says) = c.requires in
    equal_terms_said c.args.book.now c.args.node c.conclusion.result J c.conclusion.ensures says _ _ _ _ c.in-TmEq.is

pub ask_substitution-requires : goal.ask_substitution-requires
ask_substitution-requires c =
    let (J, says) = c.requires in
    substitution_said c.args.book.now c.args.node c.conclusion.result J c.conclusion.ensures says _ _ _ c.in-Sb.is
