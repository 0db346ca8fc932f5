use Rattle.std.proofs.Common.{nat_lt, ap, ◌∙◌, reverse}
use Rattle.std.specs.List.{list_any}
use Rattle.layout_lexer.specs.declared.blocks.Block.{Block}
use Rattle.layout_lexer.proofs.LayoutLaws.{any_counted}
use Rattle.layout_lexer.proofs.blocks.Blocks.has_let.Goals as goal

pub returns : goal.returns
returns c =
    ap (nat_lt 0) c.self.invariant ∙ any_counted (λ (b : Block). b.by_let) (reverse c.self.inside.items.items)
    ∙ ap (list_any (λ (b : Block). b.by_let)) c.self.view_is
