use Rattle.std.proofs.Common.{sym, subst}
use Rattle.layout_lexer.specs.declared.token.Kind.{Kind}
use Rattle.layout_lexer.specs.declared.pieces.Piece.TheVariants as piece
use Rattle.layout_lexer.specs.Scanning.{PieceIs}
use Rattle.layout_lexer.proofs.ReadingLaws.{read_name, read_space}
use Rattle.layout_lexer.proofs.pieces.read_piece.Goals as goal

pub returns-then-starts_name : goal.returns-then-starts_name
returns-then-starts_name c =
    subst (λ (kind : Kind). PieceIs c.args.cursor.now c.read_name.new.cursor (piece.Token kind)) (sym c.read_name.ensures.kind)
    (read_name c.args.cursor.now c.next.new.self c.read_name.new.cursor c.in_ok-first.first c.in_ok-first.ensures (sym c.if-starts_name.ensures) c.read_name.ensures.moved)

pub returns-then-is_space : goal.returns-then-is_space
returns-then-is_space c =
    read_space c.args.cursor.now c.next.new.self c.in_ok-first.first c.in_ok-first.ensures (sym c.if-is_space.ensures)
