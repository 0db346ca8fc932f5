use Rattle.std.proofs.Common.{◌≡◌, ◌++◌, append_assoc, subst}
use Rattle.std.proofs.lemmas.Result.{err_from_is_err_and}
use Rattle.deriv_file.specs.Writing.{Extends, spaced}
use Rattle.deriv_file.proofs.WriteLaws.{extends-prefix}
use Rattle.deriv_file.proofs.write.append_line.Goals as goal

pub returns-in_err-append_numbers-2-clause-err : goal.returns-in_err-append_numbers-2-clause-err
returns-in_err-append_numbers-2-clause-err c =
    let residual = c.from_residual-in_err-append_numbers-2 in
    let error = err_from_is_err_and residual.result residual.ensures.1 in
    let old = c.args.into.now.items in
    let more = c.args.kind.now ++ (c.args.name.now ++ spaced c.args.first.now) in
    let so_far : c.append_numbers.new.into.items ≡ old ++ more =
    rw (c.in_ok-append_numbers.ensures.ok, c.in_ok-extend_from_slice-2.ensures.items, c.in_ok-extend_from_slice.ensures.items) (simp append_assoc) in
    rw error.1 (extends-prefix old more c.append_numbers-2.new.into.items (subst (λ l. Extends l c.append_numbers-2.new.into.items) so_far c.in_err-append_numbers-2.ensures.err))
