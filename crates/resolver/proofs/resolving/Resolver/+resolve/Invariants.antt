use Rattle.std.proofs.Common.{◌≡◌, take}
use Rattle.scopes.specs.Steps.{Binds, Opens, Resolves}
use Rattle.scopes.proofs.Blocks.{Seen}
use Rattle.resolved_forms.specs.Spelt.{Applies, binders_of, block_of, elements_of, line_sides_of, pair_sides_of, term_sides_of, terms_of, written_in}
use Rattle.resolved_forms.specs.Spelt.{code_binders, code_block, code_elements, code_line_sides, code_pair_sides, code_term_sides, code_terms, code_names, def_names}
use Rattle.resolved_forms.specs.Shaped.{AreBinders, AreDefs, AreElements, AreLineSides, ArePairSides, AreSides, AreTerms}
use Rattle.resolver.proofs.resolving.Resolver.+resolve.Given as goal

abbrev pub invariant-binders-loop-tele : goal.invariant-binders-loop-tele
invariant-binders-loop-tele l =
    record {
      resolves : Binds l.fn.place l.place (binders_of l.self.names.bytes.now (take l.tele-index l.teles)) (code_binders l.binders.items);
      spelt : AreBinders l.self.names.bytes.now l.fn.place.names l.place.names (take l.tele-index l.teles) l.binders.items;
    }

abbrev pub invariant-elements-loop-element : goal.invariant-elements-loop-element
invariant-elements-loop-element l =
    record {
      resolves : Applies l.fn.place l.place (elements_of l.self.names.bytes.now (take l.element-index l.elements)) (code_elements l.resolved.items);
      spelt : AreElements l.self.names.bytes.now l.fn.place.names (take l.element-index l.elements) l.resolved.items;
    }

abbrev pub invariant-exps-loop-exp : goal.invariant-exps-loop-exp
invariant-exps-loop-exp l =
    record {
      resolves : Resolves l.fn.place l.place (terms_of l.self.names.bytes.now (take l.exp-index l.exps)) (code_terms l.resolved.items);
      spelt : AreTerms l.self.names.bytes.now l.fn.place.names (take l.exp-index l.exps) l.resolved.items;
    }

abbrev pub invariant-sides-loop-side : goal.invariant-sides-loop-side
invariant-sides-loop-side l =
    record {
      resolves : Resolves l.fn.place l.place (term_sides_of l.self.names.bytes.now (take l.side-index l.sides)) (code_term_sides l.resolved.items);
      spelt : AreSides l.self.names.bytes.now l.fn.place.names (take l.side-index l.sides) l.resolved.items;
    }

abbrev pub invariant-line_sides-loop-side : goal.invariant-line_sides-loop-side
invariant-line_sides-loop-side l =
    record {
      resolves : Resolves l.fn.place l.place (line_sides_of l.self.names.bytes.now (take l.side-index l.sides)) (code_line_sides l.resolved.items);
      spelt : AreLineSides l.self.names.bytes.now l.fn.place.names (take l.side-index l.sides) l.resolved.items;
    }

abbrev pub invariant-pair_sides-loop-side : goal.invariant-pair_sides-loop-side
invariant-pair_sides-loop-side l =
    record {
      resolves : Resolves l.fn.place l.place (pair_sides_of l.self.names.bytes.now (take l.side-index l.sides)) (code_pair_sides l.resolved.items);
      spelt : ArePairSides l.self.names.bytes.now l.fn.place.names (take l.side-index l.sides) l.resolved.items;
    }

abbrev pub invariant-block-loop-def : goal.invariant-block-loop-def
invariant-block-loop-def l =
    let bytes = l.self.names.bytes.now in
    record {
      opens : Opens l.fn.place l.place (block_of bytes (take l.def-index l.defs)) (code_block l.codes.items);
      spelt : AreDefs bytes l.fn.place.names l.place.names (take l.def-index l.defs) l.codes.items;
      seen : Seen bytes l.fn.place l.place (written_in bytes (take l.def-index l.defs));
      named : code_names l.codes.items ≡ def_names (take l.def-index l.defs);
    }
