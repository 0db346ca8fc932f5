use Rattle.std.proofs.Common.{[], refl}
use Rattle.recipes.specs.Derivations.{conclusions_at}
use Rattle.kan_tests.specs.Fillings.{carried_statement, earlier, extended_statement, faces_statement, identity_statement, lifted_statement, lines_statement}
use Rattle.kan_tests.specs.declared.fill_faces.TheConstants.{FILL_FACES, FILL_FACES_GIVES}
use Rattle.kan_tests.specs.declared.fill_lines.TheConstants.{FILL_LINES, FILL_LINES_GIVES}
use Rattle.kan_tests.specs.declared.contr_variable.TheConstants.{CONTR_VARIABLE, CONTR_VARIABLE_GIVES}
use Rattle.kan_tests.specs.declared.pres_numbers.TheConstants.{PRES_NUMBERS, PRES_NUMBERS_GIVES}
use Rattle.kan_tests.specs.declared.ext_variable.TheConstants.{EXT_VARIABLE, EXT_VARIABLE_GIVES}
use Rattle.kan_tests.specs.declared.ext_numbers.TheConstants.{EXT_NUMBERS, EXT_NUMBERS_GIVES}
use Rattle.book_tests.proofs.RunLaws.{may-try}
use Rattle.behind_tests.specs.Compositions.{compositions_statement, glued_composition_statement}
use Rattle.behind_tests.specs.Glued.{glued_statement}
use Rattle.behind_tests.specs.declared.compositions.TheConstants.{COMPOSITIONS, COMPOSITIONS_GIVES}
use Rattle.behind_tests.specs.declared.glued_composition.TheConstants.{GLUED_COMPOSITION, GLUED_COMPOSITION_GIVES}
use Rattle.behind_tests.specs.declared.glued.TheConstants.{GLUED, GLUED_GIVES}
use Rattle.behind_tests.proofs.runs.derive_whole.Goals as goal

pub given-requires-clause-right : goal.given-requires-clause-right
given-requires-clause-right c = (conclusions_at faces_statement [], may-try earlier faces_statement FILL_FACES.now FILL_FACES_GIVES.now refl refl refl c.fillings_are_derived.ensures.faces)

pub given-requires-in-Lines-clause-right : goal.given-requires-in-Lines-clause-right
given-requires-in-Lines-clause-right c = (conclusions_at lines_statement [], may-try earlier lines_statement FILL_LINES.now FILL_LINES_GIVES.now refl refl refl c.fillings_are_derived.ensures.lines)

pub given-requires-in-Contraction-clause-right : goal.given-requires-in-Contraction-clause-right
given-requires-in-Contraction-clause-right c = (conclusions_at extended_statement [], may-try earlier extended_statement CONTR_VARIABLE.now CONTR_VARIABLE_GIVES.now refl refl refl c.contraction_is_derived.ensures)

pub given-requires-in-Preservation-clause-right : goal.given-requires-in-Preservation-clause-right
given-requires-in-Preservation-clause-right c = (conclusions_at carried_statement [], may-try earlier carried_statement PRES_NUMBERS.now PRES_NUMBERS_GIVES.now refl refl refl c.preservation_is_derived.ensures)

pub given-requires-in-Extension-clause-right : goal.given-requires-in-Extension-clause-right
given-requires-in-Extension-clause-right c = (conclusions_at lifted_statement [], may-try earlier lifted_statement EXT_VARIABLE.now EXT_VARIABLE_GIVES.now refl refl refl c.extension_is_derived.ensures)

pub given-requires-in-Identity-clause-right : goal.given-requires-in-Identity-clause-right
given-requires-in-Identity-clause-right c = (conclusions_at identity_statement [], may-try earlier identity_statement EXT_NUMBERS.now EXT_NUMBERS_GIVES.now refl refl refl c.identity_is_equivalence.ensures)

pub given-requires-in-Glue-clause-right : goal.given-requires-in-Glue-clause-right
given-requires-in-Glue-clause-right c = (conclusions_at glued_statement [], may-try earlier glued_statement GLUED.now GLUED_GIVES.now refl refl refl c.tables_are_derived.ensures.glued)

pub given-requires-in-Compositions-clause-right : goal.given-requires-in-Compositions-clause-right
given-requires-in-Compositions-clause-right c = (conclusions_at compositions_statement [], may-try earlier compositions_statement COMPOSITIONS.now COMPOSITIONS_GIVES.now refl refl refl c.tables_are_derived.ensures.compositions)

pub given-requires-in-GluedComposition-clause-right : goal.given-requires-in-GluedComposition-clause-right
given-requires-in-GluedComposition-clause-right c = (conclusions_at glued_composition_statement [], may-try earlier glued_composition_statement GLUED_COMPOSITION.now GLUED_COMPOSITION_GIVES.now refl refl refl c.tables_are_derived.ensures.glued_composition)
