-- What a checker does to tasks, one after another.
use Rattle.std.proofs.Common.{◌≡◌, ◌<◌, ◌+◌, ℕ, List, [], length, ◌∷◌, ◌++◌, reverse, Option, None, true, refl, sym, ap, subst, ◌∙◌, arith}
use Rattle.std.proofs.lemmas.List.{reverse-append, reverse-reverse}
use Rattle.book.specs.Contents.{Contents}
use Rattle.book.specs.Shown.{Extends}
use Rattle.typed_contexts.proofs.GrowthLaws.{further}
use Rattle.typing_steps.specs.declared.state.CheckState.{CheckState}
use Rattle.typing_tasks.specs.declared.tasks.Task.{Task}
use Rattle.typing_tasks.specs.declared.tasks.Tasks.{Tasks}
use Rattle.typing_tasks.specs.declared.tasks.Next.{Next}
use Rattle.typing_tasks.specs.declared.tasks.Next.TheVariants.{Moved, NotDirect}
use Rattle.typing_tasks.specs.States.{State}
use Rattle.typing_tasks.specs.Tasks.{Run, Then}
use Rattle.typing_tasks.specs.Weights.{weight, weights}
use Rattle.typing_steps.specs.Steps.{Finishes, MayStep, Steps}
use Rattle.bidirect.specs.Checked.{Runs, ToDo}
use Rattle.typing_steps.proofs.GrowthLaws.{run_append, then_later}
use Rattle.typing_steps.proofs.Planning.{settled}

-- weights

weights_append : (ts us : List Task) → weights (ts ++ us) ≡ weights ts + weights us
weights_append [] us = omega arith
weights_append (t ∷ ts) us = let e = weights_append ts us in omega arith

weights_reverse : (ts : List Task) → weights (reverse ts) ≡ weights ts
weights_reverse [] = refl
weights_reverse (t ∷ ts) =
    let cut : weights (reverse (t ∷ ts)) ≡ weights (reverse ts ++ t ∷ []) = ap weights (reverse-append (t ∷ []) ts) in
    let sum : weights (reverse ts ++ t ∷ []) ≡ weights (reverse ts) + (weight t + 0) = weights_append (reverse ts) (t ∷ []) in
    let e = weights_reverse ts in omega arith

-- what is planned for the last task weighs less
lighter : (left ts : List Task) (t : Task) → weights ts < weight t → weights (left ++ reverse ts) < weights (left ++ t ∷ [])
lighter left ts t less =
    let more : weights (left ++ reverse ts) ≡ weights left + weights (reverse ts) = weights_append left (reverse ts) in
    let less_of : weights (left ++ t ∷ []) ≡ weights left + (weight t + 0) = weights_append left (t ∷ []) in
    let e = weights_reverse ts in omega arith

-- tasks that are to be done

-- the last item is the first task
first_task : (items left ts : List Task) (t : Task) → items ≡ reverse ts → items ≡ left ++ t ∷ [] → ts ≡ t ∷ reverse left
first_task items left ts t are whole = sym (reverse-reverse ts) ∙ (ap reverse (sym are ∙ whole) ∙ reverse-append left (t ∷ []))

no_task : (items ts : List Task) → items ≡ reverse ts → items ≡ [] → ts ≡ []
no_task items ts are none = sym (reverse-reverse ts) ∙ ap reverse (sym are ∙ none)

-- the first task can be done
pub may_step : (b : Contents) (x : CheckState) (old : Tasks) (left : List Task) (t : Task) → old.items.items ≡ left ++ t ∷ []
    → (R : Option State) × ToDo b x old R → MayStep b x t
may_step b x old left t whole (R, todo) =
    let (S, ts, is, are, run) = todo in
    let (M, does, then) = subst (λ us. Run b us S R) (first_task old.items.items left ts t are whole) run in (S, M, is, does)

-- Between two tasks: what is to be done now makes of the state what all of it makes.
pub record Doing (b c : Contents) (x y : CheckState) (all now : Tasks) : Type 0 where
  pub grown : Extends b c
  pub some : (R : Option State) × ToDo c y now R
  pub leads : (R : Option State) → ToDo b x all R → ToDo c y now R

-- nothing was done
pub begun : (b : Contents) (x : CheckState) (tasks : Tasks) → (R : Option State) × ToDo b x tasks R → Doing b b x x tasks tasks
begun b x tasks some = record { grown = record { rows = record { keeps = λ k x is. is }; nodes = λ k n is. is; conclusions = λ k J is. is; marks = λ m is. is }; some = some; leads = λ R h. h }

-- a step of the first task
module _ (b c : Contents) (x y : CheckState) (old popped new : Tasks) (t : Task) (whole : old.items.items ≡ popped.items.items ++ t ∷ []) where
  left : List Task
  left = popped.items.items

  pub to_do_next : Extends b c → Steps b c x y popped new t Moved → (R : Option State) → ToDo b x old R → ToDo c y new R
  unfolding left
  to_do_next e steps R (S, ts, is, are, run) =
      let (M, does, then) = subst (λ us. Run b us S R) (first_task old.items.items left ts t are whole) run in
      let (T, us, at, planned, less, goes) = steps S M is does in (
        T,
        us ++ reverse left,
        at,
        planned ∙ (ap (λ ls. ls ++ reverse us) (sym (reverse-reverse left)) ∙ sym (reverse-append us (reverse left))),
        run_append c us (reverse left) T M R goes (then_later e (reverse left) M R then),
      )

  pub weighs_less : Steps b c x y popped new t Moved → (R : Option State) × ToDo b x old R → weights new.items.items < weights old.items.items
  unfolding left
  weighs_less steps (R, todo) =
      let (S, ts, is, are, run) = todo in
      let (M, does, then) = subst (λ us. Run b us S R) (first_task old.items.items left ts t are whole) run in
      let (T, us, at, planned, less, goes) = steps S M is does in
      subst (λ (o : List Task). weights new.items.items < weights o) (sym whole)
      (subst (λ (n : List Task). weights n < weights (left ++ t ∷ [])) (sym planned) (lighter left us t less))

  pub refused : Steps b c x y popped new t NotDirect → (R : Option State) → ToDo b x old R → R ≡ None
  unfolding left
  refused steps R (S, ts, is, are, run) =
      let (M, does, then) = subst (λ us. Run b us S R) (first_task old.items.items left ts t are whole) run in
      subst (λ N. Then (Run b (reverse left)) N R) (steps S M is does) then

-- nothing is left

pub none_left : {X : Type 0} (xs : List X) (len : ℕ) → len ≡ length xs → len ≡ 0 → xs ≡ []
none_left [] len is none = refl
none_left (x ∷ xs) len is none = absurd (omega arith)

pub all_done : (b : Contents) (x : CheckState) (tasks : Tasks) → tasks.items.items ≡ [] → (R : Option State) → ToDo b x tasks R → Runs b x true R
all_done b x tasks none R (S, ts, is, are, run) =
    (S, is, subst (λ us. Run b us S R) (no_task tasks.items.items ts are none) run)

-- the loop

module _ (a b c : Contents) (w x y : CheckState) (all old popped new : Tasks) (t : Task) (whole : old.items.items ≡ popped.items.items ++ t ∷ []) (doing : Doing a b w x all old) where
  pub next_doing : Extends b c → Steps b c x y popped new t Moved → Doing a c w y all new
  next_doing e steps = record {
    grown = further doing.grown e;
    some = let (R, todo) = doing.some in (R, to_do_next b c x y old popped new t whole e steps R todo);
    leads = λ R h. to_do_next b c x y old popped new t whole e steps R (doing.leads R h);
  }

  pub all_refused : Steps b c x y popped new t NotDirect → (R : Option State) → ToDo a w all R → R ≡ None
  all_refused steps R h = refused b c x y old popped new t whole steps R (doing.leads R h)

-- steps, by their families

pub finished : (b c : Contents) (x y : CheckState) (tasks : Tasks) (t u : Task) (next : Next) → u ≡ t → weight t ≡ 1 → Finishes b c x y t next → Steps b c x y tasks tasks u next
finished b c x y tasks t u next is one done =
    subst (λ v. Steps b c x y tasks tasks v next) (sym is) (λ S M at does. settled c y tasks t next M (omega (arith, one)) (done S M at does))

pub begins : (b c : Contents) (x y : CheckState) (old new : Tasks) (t u : Task) (next : Next) → u ≡ t → Steps b c x y old new t next → Steps b c x y old new u next
begins b c x y old new t u next is steps = subst (λ v. Steps b c x y old new v next) (sym is) steps
