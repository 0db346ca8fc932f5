use Rattle.std.proofs.Common.{◌<◌, ◌∙◌, ap, length, take}
use Rattle.std.specs.Prelude.{option_and_then}
use Rattle.std.proofs.lemmas.List.Elements.{All-same}
use Rattle.trees.specs.Operators.{kids_of}
use Rattle.trees.specs.Things.{meanings, made}
use Rattle.book.specs.Shown.{book_means}
use Rattle.recipe_runner.specs.Running.{numbers_at}
use Rattle.recipe_runner.proofs.BuildLaws.{kids-there, cut-as, some-is}
use Rattle.recipe_runner.proofs.interpreter.over_kids.Goals as goal

pub picked-kids-requires-clause-within : goal.picked-kids-requires-clause-within
picked-kids-requires-clause-within c =
    let k = kids-there c.args.book.now c.args.made.now c.args.op c.args.kids.now c.requires.0 c.requires.1 in
    All-same (λ n. n < length c.args.made.now) c.split_at.result.0.now (take (kids_of c.args.op) c.args.kids.now) (cut-as c.args.kids.now c.split_at.result.0.now _ _ c.split_at.ensures.front c.kid_count.ensures) k.within

pub make-requires : goal.make-requires
make-requires c =
    let k = kids-there c.args.book.now c.args.made.now c.args.op c.args.kids.now c.requires.0 c.requires.1 in
    let kids = c.as_slice.ensures.value ∙ c.picked-kids.ensures ∙ ap (numbers_at c.args.made.now) (cut-as c.args.kids.now c.split_at.result.0.now _ _ c.split_at.ensures.front c.kid_count.ensures) in
    some-is _ c.requires.0 (ap (λ ns. option_and_then (made c.args.op) (meanings (book_means c.args.book.now) ns)) kids ∙ k.gives)

pub returns-clause-meaning : goal.returns-clause-meaning
returns-clause-meaning c = λ x h.
    let k = kids-there c.args.book.now c.args.made.now c.args.op c.args.kids.now x h in
    let kids = c.as_slice.ensures.value ∙ c.picked-kids.ensures ∙ ap (numbers_at c.args.made.now) (cut-as c.args.kids.now c.split_at.result.0.now _ _ c.split_at.ensures.front c.kid_count.ensures) in
    c.in_ok-make.ensures.meaning ∙ ap (λ ns. option_and_then (made c.args.op) (meanings (book_means c.args.book.now) ns)) kids ∙ k.gives
