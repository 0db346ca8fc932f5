use Rattle.std.proofs.Common.{◌≡◌, rules, codes, inl, inr, [], ◌∷◌}
use Rattle.deriv_file.proofs.RowLaws.{context_row}
use Rattle.deriv_file.proofs.line.context.Goals as goal

pub returns-in_default : goal.returns-in_default
returns-in_default c = λ row e stands.
    let word = c.in_ok-take.field-0.now in
    let not_nil : word ≡ codes "nil" → c.take.new.self ≡ [] → ⊥ = search rules in
    let not_var : word ≡ codes "var" → ⊥ = search rules in
    let not_name : word ≡ codes "name" → ⊥ = search rules in
    let not_face : word ≡ codes "face" → ⊥ = search rules in
    let taken : c.args.words.now ≡ word ∷ c.take.new.self = c.in_ok-take.ensures in
    elim (context_row c.args.words.now row e) [
      | inl none ↦ (let left : c.take.new.self ≡ [] = cc in not_nil (let is : word ≡ codes "nil" = cc in is) left)
      | inr (inl var) ↦ not_var (let is : word ≡ codes "var" = cc in is)
      | inr (inr (inl name)) ↦ not_name (let is : word ≡ codes "name" = cc in is)
      | inr (inr (inr face)) ↦ not_face (let is : word ≡ codes "face" = cc in is)
    ]
