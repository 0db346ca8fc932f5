use Rattle.std.proofs.Common.{◌≡◌, true, false, sym, ◌∙◌, ap, subst}
use Rattle.layout_lexer.specs.Places.{IsStep, first_of}
use Rattle.layout_lexer.specs.Scanning.{PieceIs, begins_as, sign_of_two}
use Rattle.layout_lexer.proofs.ReadingLaws.{next_step, second_comes, read_line, read_block, read_open, read_two, read_one}
use Rattle.layout_lexer.proofs.pieces.read_sign.Goals as goal

pub returns-then-begins : goal.returns-then-begins
returns-then-begins c = λ old step at.
    let begins : begins_as 45 45 c.args.first (first_of c.args.cursor.now.rest) ≡ true = sym (ap (begins_as 45 45 c.args.first) c.peek-next.ensures) ∙ sym c.if-begins.ensures in
    read_line old c.args.cursor.now c.skip_line.new.cursor c.args.first step begins c.skip_line.ensures

pub returns-then-skip_block : goal.returns-then-skip_block
returns-then-skip_block c = λ old step at.
    let begins : begins_as 123 45 c.args.first (first_of c.args.cursor.now.rest) ≡ true = sym (ap (begins_as 123 45 c.args.first) c.peek-next.ensures) ∙ sym c.if-begins-2.ensures in
    let second : IsStep c.args.cursor.now 45 c.next.new.self = next_step c.args.cursor.now c.next.new.self 45 c.next.result (second_comes c.args.cursor.now 123 45 c.args.first begins) c.next.ensures in
    read_block old c.args.cursor.now c.next.new.self c.skip_block.new.cursor c.args.first step begins second c.if-skip_block.ensures

pub returns-then-begins-2 : goal.returns-then-begins-2
returns-then-begins-2 c = λ old step at.
    let begins : begins_as 123 45 c.args.first (first_of c.args.cursor.now.rest) ≡ true = sym (ap (begins_as 123 45 c.args.first) c.peek-next.ensures) ∙ sym c.if-begins-2.ensures in
    let second : IsStep c.args.cursor.now 45 c.next.new.self = next_step c.args.cursor.now c.next.new.self 45 c.next.result (second_comes c.args.cursor.now 123 45 c.args.first begins) c.next.ensures in
    read_open old c.args.cursor.now c.next.new.self c.skip_block.new.cursor c.args.first c.args.at step begins second c.if-skip_block.ensures at

pub returns-in-Some : goal.returns-in-Some
returns-in-Some c = λ old step at.
    let line : begins_as 45 45 c.args.first (first_of c.args.cursor.now.rest) ≡ false = sym (ap (begins_as 45 45 c.args.first) c.peek-next.ensures) ∙ sym c.if-begins.ensures in
    let block : begins_as 123 45 c.args.first (first_of c.args.cursor.now.rest) ≡ false = sym (ap (begins_as 123 45 c.args.first) c.peek-next.ensures) ∙ sym c.if-begins-2.ensures in
    let sign = sym (ap (sign_of_two c.args.first) c.peek-next.ensures) ∙ sym c.in-Some.ensures in
    read_two old c.args.cursor.now c.args.first c.requires.no_name c.requires.no_space step line block c.next-in-Some.new.self c.next-in-Some.result c.in-Some.kind sign c.next-in-Some.ensures

pub returns-in-None : goal.returns-in-None
returns-in-None c = λ old step at.
    let line : begins_as 45 45 c.args.first (first_of c.args.cursor.now.rest) ≡ false = sym (ap (begins_as 45 45 c.args.first) c.peek-next.ensures) ∙ sym c.if-begins.ensures in
    let block : begins_as 123 45 c.args.first (first_of c.args.cursor.now.rest) ≡ false = sym (ap (begins_as 123 45 c.args.first) c.peek-next.ensures) ∙ sym c.if-begins-2.ensures in
    let none = sym (ap (sign_of_two c.args.first) c.peek-next.ensures) ∙ sym c.in-None.ensures in
    subst (PieceIs old c.args.cursor.now) (sym c.one_sign.ensures) (read_one old c.args.cursor.now c.args.first c.requires.no_name c.requires.no_space step line block c.args.at at none)
