use Rattle.std.proofs.Common.{◌∙◌, subst, arith}
use Rattle.layout_lexer.specs.declared.pieces.Piece.TheVariants as piece
use Rattle.layout_lexer.specs.Scanning.{PieceIs}
use Rattle.layout_lexer.proofs.ScanLaws.{gap_left, token_read}
use Rattle.layout_lexer.proofs.scanner.next_token.Goals as goal

pub pieces-smaller : goal.pieces-smaller
pieces-smaller c =
    let gap : PieceIs c.pieces.cursor c.read_piece.new.cursor piece.Gap = subst (PieceIs c.pieces.cursor c.read_piece.new.cursor) c.in-Some-Gap.field-0-is c.in-Some-Gap.ensures in
    (gap_left c.pieces.cursor c.read_piece.new.cursor gap).1.less

pub pieces-preserved : goal.pieces-preserved
pieces-preserved c =
    let gap : PieceIs c.pieces.cursor c.read_piece.new.cursor piece.Gap = subst (PieceIs c.pieces.cursor c.read_piece.new.cursor) c.in-Some-Gap.field-0-is c.in-Some-Gap.ensures in
    let left = gap_left c.pieces.cursor c.read_piece.new.cursor gap in
    record {
      tokens = left.0 ∙ c.pieces.invariant.tokens;
      end = left.1.end ∙ c.pieces.invariant.end;
      size = omega (arith, left.1.less);
    }

pub returns-in-Some-Token : goal.returns-in-Some-Token
returns-in-Some-Token c =
    let token : PieceIs c.pieces.cursor c.read_piece.new.cursor (piece.Token c.in-Some-Token.kind) = subst (PieceIs c.pieces.cursor c.read_piece.new.cursor) c.in-Some-Token.field-0-is c.in-Some-Token.ensures in
    token_read c.args.cursor.now c.pieces.cursor c.read_piece.new.cursor c.note_token.new.self c.in-Some-Token.kind _ _ _ _ c.pieces.invariant.tokens c.pieces.invariant.end c.pieces.invariant.size token c.note_token.ensures c.at-start.ensures c.at-end.ensures c.column-column.ensures c.is_fresh-first.ensures
