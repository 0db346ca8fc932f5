-- What a row's line is made of.
use Rattle.std.proofs.Common.{◌≡◌, ℕ, List, [], ◌∷◌, ◌++◌, length, map, take, codes, decimal, refl, sym, ◌∙◌, ap, arith, append_assoc, length-append}
use Rattle.std.specs.List.{flat_map, join_with_byte}
use Rattle.std.proofs.lemmas.Grind.{flat_map-append}
use Rattle.std.proofs.lemmas.List.{append-nil, take-take, take_at}
use Rattle.trees.specs.Operators.{name_of as operator_name}
use Rattle.theory.specs.RuleNames.{name_of as rule_name}
use Rattle.trees.specs.declared.op.Op.{Op}
use Rattle.theory.specs.declared.rule.RuleName.{RuleName}
use Rattle.deriv_file.specs.declared.row.Row.TheVariants.{Make, Node}
use Rattle.deriv_file.specs.Spelling.{spelled}
use Rattle.deriv_file.specs.Writing.{spaced, Extends}

-- after the first word each has its space before it
joined : (word : List ℕ) (words : List (List ℕ)) → join_with_byte 32 (word ∷ words) ≡ word ++ flat_map (λ w. 32 ∷ w) words
joined word [] = sym (append-nil word)
joined word (w ∷ words) = ap (λ l. word ++ (32 ∷ l)) (joined w words)

spaced_words : (numbers : List ℕ) → flat_map (λ w. 32 ∷ w) (map decimal numbers) ≡ spaced numbers
spaced_words [] = refl
spaced_words (n ∷ numbers) = ap (λ l. (32 ∷ decimal n) ++ l) (spaced_words numbers)

pub tree_line : (op : Op) (kids : List ℕ) → spelled (Make op kids) ≡ codes "t " ++ operator_name op ++ spaced kids ++ [] ++ 10 ∷ []
tree_line op kids =
    let name = operator_name op in
    ap (λ l. (codes "t " ++ l) ++ 10 ∷ []) (joined name (map decimal kids) ∙ ap (λ l. name ++ l) (spaced_words kids))
    ∙ ap (λ l. l ++ 10 ∷ []) (sym (append-nil (codes "t " ++ name ++ spaced kids)))

pub node_line : (rule : RuleName) (parts premises : List ℕ) → spelled (Node rule parts premises) ≡ codes "n " ++ rule_name rule ++ spaced parts ++ spaced premises ++ 10 ∷ []
node_line rule parts premises =
    let name = rule_name rule in
    let numbers = flat_map-append (λ w. 32 ∷ w) (map decimal parts) (map decimal premises) ∙ ap (λ l. l ++ flat_map (λ w. 32 ∷ w) (map decimal premises)) (spaced_words parts) ∙ ap (λ l. spaced parts ++ l) (spaced_words premises) in
    ap (λ l. (codes "n " ++ l) ++ 10 ∷ []) (joined name (map decimal parts ++ map decimal premises) ∙ ap (λ l. name ++ l) numbers)
    ∙ ap (λ l. l ++ 10 ∷ []) (sym (append_assoc (codes "n " ++ name) (spaced parts) (spaced premises)))

-- what begins with more begins with less
pub extends-prefix : (old more new : List ℕ) → Extends (old ++ more) new → Extends old new
extends-prefix old more new extends =
    sym (take-take (length old) (length (old ++ more)) new (omega (arith, length-append old more)))
    ∙ ap (take (length old)) extends
    ∙ take_at old more (length old) refl
