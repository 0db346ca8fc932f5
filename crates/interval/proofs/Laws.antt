-- Laws of values, and the values of joined lists.
use Rattle.std.proofs.Common.{◌≡◌, ℕ, ◌<◌, ◌+◌, length, take, get_or, Bool, true, false, not, ◌&&◌, ◌||◌, List, [], ◌∷◌, ◌++◌, refl, sym, ◌∙◌, ap}
use Rattle.std.proofs.lemmas.List.{take_more}
use Rattle.points.specs.Values.{Value, Valuation, zero_value, one_value, negation, meet, join}
use Rattle.interval.specs.declared.literals.Literal.{Literal}
use Rattle.interval.specs.Literals.{signed, literal_value}
use Rattle.interval.specs.Forms.{product_value, form_value}

-- values are equal if both their parts are
pub same_value : (v w : Value) → v.holds ≡ w.holds → v.fails ≡ w.fails → v ≡ w
same_value v w h f =
    let Held : Bool → Value = λ b. record { holds = b; fails = v.fails } in
    let Failed : Bool → Value = λ b. record { holds = w.holds; fails = b } in
    ap Held h ∙ ap Failed f

and_true : (b : Bool) → (b && true) ≡ b
and_true true = refl
and_true false = refl

pub or_false : (b : Bool) → (b || false) ≡ b
or_false true = refl
or_false false = refl

and_assoc : (a b c : Bool) → (a && (b && c)) ≡ ((a && b) && c)
and_assoc true b c = refl
and_assoc false b c = refl

or_assoc : (a b c : Bool) → (a || (b || c)) ≡ ((a || b) || c)
or_assoc true b c = refl
or_assoc false b c = refl

pub meet_one : (v : Value) → meet v one_value ≡ v
meet_one v = same_value (meet v one_value) v (and_true v.holds) (or_false v.fails)

pub join_zero : (v : Value) → join v zero_value ≡ v
join_zero v = same_value (join v zero_value) v (or_false v.holds) (and_true v.fails)

meet_assoc : (u v w : Value) → meet u (meet v w) ≡ meet (meet u v) w
meet_assoc u v w =
    same_value (meet u (meet v w)) (meet (meet u v) w) (and_assoc u.holds v.holds w.holds) (or_assoc u.fails v.fails w.fails)

join_assoc : (u v w : Value) → join u (join v w) ≡ join (join u v) w
join_assoc u v w =
    same_value (join u (join v w)) (join (join u v) w) (or_assoc u.holds v.holds w.holds) (and_assoc u.fails v.fails w.fails)

pub signed_not : (b : Bool) (v : Value) → signed (not b) v ≡ negation (signed b v)
signed_not true v = refl
signed_not false v = refl

pub product_value-push : (product : List Literal) (literal : Literal) (valuation : Valuation) → product_value (product ++ literal ∷ []) valuation ≡ meet (product_value product valuation) (literal_value literal valuation)
product_value-push [] literal valuation = meet_one (literal_value literal valuation)
product_value-push (l ∷ rest) literal valuation =
    ap (meet (literal_value l valuation)) (product_value-push rest literal valuation)
    ∙ meet_assoc (literal_value l valuation) (product_value rest valuation) (literal_value literal valuation)

pub form_value-push : (form : List (List Literal)) (product : List Literal) (valuation : Valuation) → form_value (form ++ product ∷ []) valuation ≡ join (form_value form valuation) (product_value product valuation)
form_value-push [] product valuation = join_zero (product_value product valuation)
form_value-push (p ∷ rest) product valuation =
    ap (join (product_value p valuation)) (form_value-push rest product valuation)
    ∙ join_assoc (product_value p valuation) (form_value rest valuation) (product_value product valuation)

-- one more literal of a product that is negated
pub negated_more : (done new : List (List Literal)) (product : List Literal) (i : ℕ) (d other : Literal) (valuation : Valuation) → i < length product → literal_value other valuation ≡ negation (literal_value (get_or product i d) valuation) → new ≡ done ++ (other ∷ []) ∷ [] → form_value done valuation ≡ negation (product_value (take i product) valuation) → form_value new valuation ≡ negation (product_value (take (i + 1) product) valuation)
negated_more done new product i d other valuation l n g h =
    ap (λ form. form_value form valuation) g
    ∙ form_value-push done (other ∷ []) valuation
    ∙ ap (λ v. join v (product_value (other ∷ []) valuation)) h
    ∙ ap (join (negation (product_value (take i product) valuation))) (meet_one (literal_value other valuation) ∙ n)
    ∙ ap negation (sym (product_value-push (take i product) (get_or product i d) valuation))
    ∙ ap (λ ls. negation (product_value ls valuation)) (sym (take_more product i d l))

-- one more product of a form that is negated
pub neg_more : (form : List (List Literal)) (i : ℕ) (product : List Literal) (valuation : Valuation) (done part new : Value) → i < length form → product ≡ get_or form i product → new ≡ meet done part → part ≡ negation (product_value product valuation) → done ≡ negation (form_value (take i form) valuation) → new ≡ negation (form_value (take (i + 1) form) valuation)
neg_more form i product valuation done part new l e m p d =
    m
    ∙ ap (λ v. meet v part) d
    ∙ ap (meet (negation (form_value (take i form) valuation))) p
    ∙ ap negation (sym (form_value-push (take i form) product valuation))
    ∙ ap (λ ps. negation (form_value ps valuation)) (sym (take_more form i product l ∙ ap (λ z. take i form ++ z ∷ []) (sym e)))
