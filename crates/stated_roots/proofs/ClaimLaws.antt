-- Nodes and claims that are compared one after another.
use Rattle.std.proofs.Common.{◌≡◌, ◌<◌, ◌+◌, ℕ, zero, suc, List, [], ◌∷◌, map, length, take, slice_index_or, slice_get, refl, sym, ◌∙◌, ap, subst, arith, Option, Some, None, IsSome}
use Rattle.std.proofs.lemmas.List.{length-map}
use Rattle.trees.specs.Judgements.{Judgement}
use Rattle.trees.specs.declared.claim.Claim.{Claim}
use Rattle.trees.specs.Claimed.{claimed}
use Rattle.trees.specs.Things.{Meanings, both, consed, meanings}
use Rattle.book.specs.declared.kernel.NodeId.{NodeId}

-- what nodes conclude, in order
abbrev pub conclusions : (ℕ → Option Judgement) → List NodeId → List (Option Judgement)
conclusions says nodes = map (λ (node : NodeId). says node.0) nodes

-- these claims are these judgements
abbrev pub Claim_all : Meanings → List Claim → List Judgement → Type 0
Claim_all f cs Js = map (claimed f) cs ≡ map Some Js

-- the claim at a place is a judgement
pub judged : (f : Meanings) (cs : List Claim) (Js : List Judgement) (i : ℕ) (d : Claim) → Claim_all f cs Js → i < length cs → IsSome (claimed f (slice_index_or cs i d))
judged f [] Js i d e l = absurd (omega arith)
judged f (c ∷ cs) [] i d e l = absurd (let n = ap length e in omega arith)
judged f (c ∷ cs) (J ∷ Js) zero d e l = let h : claimed f c ≡ Some J = cc in subst IsSome (sym h) refl
judged f (c ∷ cs) (J ∷ Js) (suc i) d e l = let h : map (claimed f) cs ≡ map Some Js = cc in judged f cs Js i d h (omega arith)

-- one more of both is the same
pub one_more : (f : Meanings) (says : ℕ → Option Judgement) (nodes : List NodeId) (cs : List Claim) (i : ℕ) (d : NodeId) (e : Claim) → i < length nodes → i < length cs
    → take i (conclusions says nodes) ≡ take i (map (claimed f) cs) → says (slice_index_or nodes i d).0 ≡ claimed f (slice_index_or cs i e)
    → take (i + 1) (conclusions says nodes) ≡ take (i + 1) (map (claimed f) cs)
one_more f says [] cs i d e l m before here = absurd (omega arith)
one_more f says (n ∷ nodes) [] i d e l m before here = absurd (omega arith)
one_more f says (n ∷ nodes) (c ∷ cs) zero d e l m before here = ap (λ v. v ∷ []) here
one_more f says (n ∷ nodes) (c ∷ cs) (suc i) d e l m before here =
    let count : suc i + 1 ≡ suc (i + 1) = omega arith in
    let first : says n.0 ≡ claimed f c = cc in
    let rest : take i (conclusions says nodes) ≡ take i (map (claimed f) cs) = cc in
    rw count (ap (λ v. v ∷ take (i + 1) (conclusions says nodes)) first ∙ ap (λ vs. claimed f c ∷ vs) (one_more f says nodes cs i d e (omega arith) (omega arith) rest here))

take_long : {A : Type 0} (xs : List A) (n : ℕ) → length xs ≡ n → take n xs ≡ xs
take_long [] zero l = refl
take_long [] (suc n) l = refl
take_long (x ∷ xs) zero l = absurd (omega arith)
take_long (x ∷ xs) (suc n) l = ap (λ ys. x ∷ ys) (take_long xs n (omega arith))

-- all conclude what all claims say
pub all_conclude : (says : ℕ → Option Judgement) (nodes : List NodeId) (Js : List Judgement) → conclusions says nodes ≡ map Some Js → meanings says (map (λ (node : NodeId). node.0) nodes) ≡ Some Js
all_conclude says [] [] e = refl
all_conclude says [] (J ∷ Js) e = cc
all_conclude says (n ∷ nodes) [] e = cc
all_conclude says (n ∷ nodes) (J ∷ Js) e =
    let first : says n.0 ≡ Some J = cc in
    let rest : conclusions says nodes ≡ map Some Js = cc in
    ap (λ x. both consed x (meanings says (map (λ (node : NodeId). node.0) nodes))) first ∙ ap (both consed (Some J)) (all_conclude says nodes Js rest)

-- after all were compared
pub compared : (f : Meanings) (says : ℕ → Option Judgement) (nodes : List NodeId) (cs : List Claim) (Js : List Judgement) (n : ℕ) → length nodes ≡ n → length cs ≡ n → Claim_all f cs Js
    → take n (conclusions says nodes) ≡ take n (map (claimed f) cs) → meanings says (map (λ (node : NodeId). node.0) nodes) ≡ Some Js
compared f says nodes cs Js n l m claims same =
    let here = length-map nodes (λ (node : NodeId). says node.0) in
    let there = length-map cs (claimed f) in
    let all : conclusions says nodes ≡ map (claimed f) cs = sym (take_long (conclusions says nodes) n (here ∙ l)) ∙ same ∙ take_long (map (claimed f) cs) n (there ∙ m) in
    all_conclude says nodes Js (all ∙ claims)
