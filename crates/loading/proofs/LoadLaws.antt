-- What is told is loaded in one way.
use Rattle.std.proofs.Common.{◌≡◌, ◌≤◌, ◌+◌, ℕ, List, [], ◌∷◌, ◌++◌, length, refl, sym, ◌∙◌, ap, ap₂, subst, arith, None, Some, Ok, Err}
use Rattle.std.specs.Prelude.{String, string_bytes}
use Rattle.std.specs.declared.alloc.Global.{Global}
use Rattle.std.specs.List.{Contains}
use Rattle.host_io.specs.Files.{Held, HoldsAt}
use Rattle.layout_lexer.specs.declared.token.Token.{Token}
use Rattle.layout_lexer.specs.declared.fault.LexFault.{LexFault}
use Rattle.layout_lexer.specs.Texts.{tokens_of}
use Rattle.syntax.specs.Tree.{Tree}
use Rattle.productions.specs.Words.{pieces}
use Rattle.productions.specs.Grammar.{IsModule}
use Rattle.grammar.specs.Faults.{IsRead, IsFault}
use Rattle.loading.specs.Texts.{IsText, ReadsAs}
use Rattle.module_texts.specs.Texts.{Text, imports_of, path_of}
use Rattle.loading.specs.declared.text.LoadFault.{LoadFault}
use Rattle.loading.specs.declared.text.LoadFault.TheVariants as fault
use Rattle.loading.specs.Texts.{FailsAt}
use Rattle.loading.specs.Loading.{Loads, none, known, anew, Refuses, here, within, after_known, after_new, IsAnother, IsNew, RefusesOne, most_modules}
use Rattle.loading.specs.Same.{SameFault, IsDecided}
use Rattle.loading.proofs.ReadLaws.{fault_one, read_or_fault}

same_bytes : (held : Held) (path : List ℕ) (xs ys : List ℕ) → HoldsAt (Some held) path (Some xs) → HoldsAt (Some held) path (Some ys) → xs ≡ ys
same_bytes held path xs ys a b = cc

same_read : (bytes other : List ℕ) (m n : Tree) → bytes ≡ other → ReadsAs bytes m → ReadsAs other n → m ≡ n
same_read bytes other m n e a b =
    let tokens : a.tokens ≡ b.tokens = let p = a.spelled in let q = b.spelled in let r = ap tokens_of e in cc in
    b.read.only m a.read.past (subst (λ ts. IsModule (pieces ts) m a.read.past) tokens a.read.is)

text : List ℕ → List ℕ → Tree → Text
text name bytes tree = record { name = name; bytes = bytes; tree = tree }

same_text : (held : Held) (name : List ℕ) (x y : Text) → IsText (Some held) name x → IsText (Some held) name y → x ≡ y
unfolding text
same_text held name x y a b =
    let bytes = same_bytes held (path_of name) x.bytes y.bytes a.holds b.holds in
    let tree = same_read x.bytes y.bytes x.tree y.tree bytes a.reads b.reads in
    ap (λ n. text n x.bytes x.tree) (a.named ∙ sym b.named) ∙ (ap (λ b. text y.name b x.tree) bytes ∙ ap (text y.name y.bytes) tree)

-- In the same state the same is loaded.
pub loads_one : (held : Held) (loaded : List Text) (begun names : List (List ℕ)) (xs ys : List Text)
    → Loads (Some held) loaded begun names xs → Loads (Some held) loaded begun names ys → xs ≡ ys
loads_one held loaded begun [] _ _ none none = refl
loads_one held loaded begun (name ∷ names) xs ys (known a rest) (known b more) = loads_one held loaded begun names xs ys rest more
loads_one held loaded begun (name ∷ names) xs ys (known a rest) (anew y new is inner more) = absurd (new.not_loaded a)
loads_one held loaded begun (name ∷ names) xs ys (anew x new is inner rest) (known b more) = absurd (new.not_loaded b)
loads_one held loaded begun (name ∷ names) xs ys (anew {between = between} x new is inner rest) (anew {between = others} y new' is' inner' more) =
    let same = same_text held name x y is is' in
    let between_same = loads_one held loaded (name ∷ begun) (imports_of x) between others inner
    (subst (λ z. Loads (Some held) loaded (name ∷ begun) (imports_of z) others) (sym same) inner') in
    loads_one held (between ++ x ∷ []) begun names xs ys rest (subst (λ ts. Loads (Some held) ts begun names ys) (sym (ap₂ (λ ts z. ts ++ z ∷ []) between_same same)) more)

-- what a path holds

held_or_not : (held : Held) (path : List ℕ) (xs : List ℕ) → HoldsAt (Some held) path (Some xs) → HoldsAt (Some held) path None → ⊥
held_or_not held path xs a b = cc

tokens_or_fault : (bytes other : List ℕ) (ts : List Token) (f : LexFault) → bytes ≡ other → tokens_of bytes ≡ Ok ts → tokens_of other ≡ Err f → ⊥
tokens_or_fault bytes other ts f e a b = let r = ap tokens_of e in cc

one_list : (bytes other : List ℕ) (ts us : List Token) → bytes ≡ other → tokens_of bytes ≡ Ok ts → tokens_of other ≡ Ok us → ts ≡ us
one_list bytes other ts us e a b = let r = ap tokens_of e in cc

one_lex : (bytes other : List ℕ) (f g : LexFault) → bytes ≡ other → tokens_of bytes ≡ Err f → tokens_of other ≡ Err g → f ≡ g
one_lex bytes other f g e a b = let r = ap tokens_of e in cc

-- A module that is read has no fault.
text_or_fault : (held : Held) (name : List ℕ) (x : Text) (f : LoadFault) → IsText (Some held) name x → FailsAt (Some held) name f → IsDecided f → ⊥
text_or_fault held name x (fault.Missing path) is f d = held_or_not held (path_of name) x.bytes is.holds f.1
text_or_fault held name x fault.Unreadable is f d = d
text_or_fault held name x (fault.NoTokens g path) is f d =
    tokens_or_fault x.bytes f.0 is.reads.tokens g (same_bytes held (path_of name) x.bytes f.0 is.holds f.1) is.reads.spelled f.2.1.fails
text_or_fault held name x (fault.NoModule g path) is f d =
    let r = is.reads in
    let n = f.2.1 in
    let tokens = one_list x.bytes f.0 r.tokens n.tokens (same_bytes held (path_of name) x.bytes f.0 is.holds f.1) r.spelled n.spelled in
    read_or_fault IsModule (length f.0) (pieces n.tokens) x.tree g (subst (λ ts. IsRead IsModule (pieces ts) x.tree) tokens r.read) n.fails n.known
text_or_fault held name x (fault.Cycle path) is f d = f.2
text_or_fault held name x (fault.TooMany path) is f d = f.2
text_or_fault held name x fault.Memory is f d = d

-- One that is not read has one fault.
fails_one : (held : Held) (name : List ℕ) (f g : LoadFault) → FailsAt (Some held) name f → FailsAt (Some held) name g → IsDecided f → IsDecided g → SameFault f g
fails_one held name (fault.Missing p) (fault.Missing q) a b k l = a.0 ∙ sym b.0
fails_one held name (fault.Missing p) (fault.NoTokens g q) a b k l = absurd (held_or_not held (path_of name) b.0 b.1 a.1)
fails_one held name (fault.Missing p) (fault.NoModule g q) a b k l = absurd (held_or_not held (path_of name) b.0 b.1 a.1)
fails_one held name (fault.NoTokens f p) (fault.Missing q) a b k l = absurd (held_or_not held (path_of name) a.0 a.1 b.1)
fails_one held name (fault.NoTokens f p) (fault.NoTokens g q) a b k l =
    (one_lex a.0 b.0 f g (same_bytes held (path_of name) a.0 b.0 a.1 b.1) a.2.1.fails b.2.1.fails, a.2.0 ∙ sym b.2.0)
fails_one held name (fault.NoTokens f p) (fault.NoModule g q) a b k l =
    absurd (tokens_or_fault b.0 a.0 b.2.1.tokens f (same_bytes held (path_of name) b.0 a.0 b.1 a.1) b.2.1.spelled a.2.1.fails)
fails_one held name (fault.NoModule f p) (fault.Missing q) a b k l = absurd (held_or_not held (path_of name) a.0 a.1 b.1)
fails_one held name (fault.NoModule f p) (fault.NoTokens g q) a b k l =
    absurd (tokens_or_fault a.0 b.0 a.2.1.tokens g (same_bytes held (path_of name) a.0 b.0 a.1 b.1) a.2.1.spelled b.2.1.fails)
fails_one held name (fault.NoModule f p) (fault.NoModule g q) a b k l =
    let n = a.2.1 in
    let m = b.2.1 in
    let bytes = same_bytes held (path_of name) a.0 b.0 a.1 b.1 in
    let tokens = one_list a.0 b.0 n.tokens m.tokens bytes n.spelled m.spelled in
    let other : IsFault IsModule (length a.0) (pieces n.tokens) g =
    subst (λ ts. IsFault IsModule (length a.0) (pieces ts) g) (sym tokens) (subst (λ size. IsFault IsModule size (pieces m.tokens) g) (sym (ap length bytes)) m.fails) in
    (fault_one IsModule (length a.0) (pieces n.tokens) f g n.fails other n.known m.known, a.2.0 ∙ sym b.2.0)
fails_one held name (fault.Cycle p) g a b k l = absurd a.2
fails_one held name (fault.TooMany p) g a b k l = absurd a.2
fails_one held name fault.Unreadable g a b k l = absurd k
fails_one held name fault.Memory g a b k l = absurd k
fails_one held name (fault.Missing p) (fault.Cycle q) a b k l = absurd b.2
fails_one held name (fault.Missing p) (fault.TooMany q) a b k l = absurd b.2
fails_one held name (fault.Missing p) fault.Unreadable a b k l = absurd l
fails_one held name (fault.Missing p) fault.Memory a b k l = absurd l
fails_one held name (fault.NoTokens f p) (fault.Cycle q) a b k l = absurd b.2
fails_one held name (fault.NoTokens f p) (fault.TooMany q) a b k l = absurd b.2
fails_one held name (fault.NoTokens f p) fault.Unreadable a b k l = absurd l
fails_one held name (fault.NoTokens f p) fault.Memory a b k l = absurd l
fails_one held name (fault.NoModule f p) (fault.Cycle q) a b k l = absurd b.2
fails_one held name (fault.NoModule f p) (fault.TooMany q) a b k l = absurd b.2
fails_one held name (fault.NoModule f p) fault.Unreadable a b k l = absurd l
fails_one held name (fault.NoModule f p) fault.Memory a b k l = absurd l

-- Why one module is refused: by its name, or by what its path holds.
data Why (held : Held) (loaded : ℕ) (begun : List (List ℕ)) (name : List ℕ) : LoadFault → Type 0 where
  circle : (p : String Global) → string_bytes p ≡ path_of name → Contains begun name → Why held loaded begun name (fault.Cycle p)
  many : (p : String Global) → string_bytes p ≡ path_of name → (Contains begun name → ⊥) → most_modules ≤ loaded + length begun → Why held loaded begun name (fault.TooMany p)
  fails : (f : LoadFault) → IsAnother loaded begun name → FailsAt (Some held) name f → Why held loaded begun name f

why : (held : Held) (loaded : ℕ) (begun : List (List ℕ)) (name : List ℕ) (f : LoadFault) → RefusesOne (Some held) loaded begun name f → Why held loaded begun name f
why held loaded begun name (fault.Cycle p) r = circle p r.0 r.1
why held loaded begun name (fault.TooMany p) r = many p r.0 r.1 r.2
why held loaded begun name (fault.Missing p) r = fails (fault.Missing p) r.0 r.1
why held loaded begun name fault.Unreadable r = fails fault.Unreadable r.0 r.1
why held loaded begun name (fault.NoTokens f p) r = fails (fault.NoTokens f p) r.0 r.1
why held loaded begun name (fault.NoModule f p) r = fails (fault.NoModule f p) r.0 r.1
why held loaded begun name fault.Memory r = fails fault.Memory r.0 r.1

why_one : (held : Held) (loaded : ℕ) (begun : List (List ℕ)) (name : List ℕ) (f g : LoadFault) → Why held loaded begun name f → Why held loaded begun name g → IsDecided f → IsDecided g → SameFault f g
why_one held loaded begun name _ _ (circle p e c) (circle q e' c') k l = e ∙ sym e'
why_one held loaded begun name _ _ (circle p e c) (many q e' n m) k l = absurd (n c)
why_one held loaded begun name _ g (circle p e c) (fails g' a b) k l = absurd (a.0 c)
why_one held loaded begun name _ _ (many p e n m) (circle q e' c') k l = absurd (n c')
why_one held loaded begun name _ _ (many p e n m) (many q e' n' m') k l = e ∙ sym e'
why_one held loaded begun name _ g (many p e n m) (fails g' a b) k l = let less = a.1 in absurd (omega arith)
why_one held loaded begun name f _ (fails f' a b) (circle q e' c') k l = absurd (a.0 c')
why_one held loaded begun name f _ (fails f' a b) (many q e' n' m') k l = let less = a.1 in absurd (omega arith)
why_one held loaded begun name f g (fails f' a b) (fails g' a' b') k l = fails_one held name f g b b' k l

-- One that is refused before its imports is not read where it is new.
why_not : (held : Held) (loaded : ℕ) (begun : List (List ℕ)) (name : List ℕ) (x : Text) (f : LoadFault) → Why held loaded begun name f → IsAnother loaded begun name → IsText (Some held) name x → IsDecided f → ⊥
why_not held loaded begun name x _ (circle p e c) new is k = new.0 c
why_not held loaded begun name x _ (many p e n m) new is k = let less = new.1 in omega arith
why_not held loaded begun name x f (fails f' a b) new is k = text_or_fault held name x f is b k

refused_or_read : (held : Held) (loaded : List Text) (begun : List (List ℕ)) (name : List ℕ) (x : Text) (f : LoadFault) → RefusesOne (Some held) (length loaded) begun name f → IsNew loaded begun name → IsText (Some held) name x → IsDecided f → ⊥
refused_or_read held loaded begun name x f r new is k = why_not held (length loaded) begun name x f (why held (length loaded) begun name f r) new.another is k

-- In the same state no list is loaded where there is a refusal.
pub not_both : (held : Held) (loaded : List Text) (begun names : List (List ℕ)) (xs : List Text) (f : LoadFault)
    → Loads (Some held) loaded begun names xs → Refuses (Some held) loaded begun names f → IsDecided f → ⊥
not_both held loaded begun [] xs f a b k = elim b [ ]
not_both held loaded begun (name ∷ names) xs f (known a rest) (here not r) k = not a
not_both held loaded begun (name ∷ names) xs f (known a rest) (within y new is inner) k = new.not_loaded a
not_both held loaded begun (name ∷ names) xs f (known a rest) (after_known b more) k = not_both held loaded begun names xs f rest more k
not_both held loaded begun (name ∷ names) xs f (known a rest) (after_new y new is inner more) k = new.not_loaded a
not_both held loaded begun (name ∷ names) xs f (anew x new is inner rest) (here not r) k = refused_or_read held loaded begun name x f r new is k
not_both held loaded begun (name ∷ names) xs f (anew {between = between} x new is inner rest) (within y new' is' inner') k =
    let same = same_text held name x y is is' in
    not_both held loaded (name ∷ begun) (imports_of x) between f inner (subst (λ z. Refuses (Some held) loaded (name ∷ begun) (imports_of z) f) (sym same) inner') k
not_both held loaded begun (name ∷ names) xs f (anew x new is inner rest) (after_known b more) k = new.not_loaded b
not_both held loaded begun (name ∷ names) xs f (anew {between = between} x new is inner rest) (after_new {between = others} y new' is' inner' more) k =
    let same = same_text held name x y is is' in
    let between_same = loads_one held loaded (name ∷ begun) (imports_of x) between others inner
    (subst (λ z. Loads (Some held) loaded (name ∷ begun) (imports_of z) others) (sym same) inner') in
    not_both held (between ++ x ∷ []) begun names xs f rest (subst (λ ts. Refuses (Some held) ts begun names f) (sym (ap₂ (λ ts z. ts ++ z ∷ []) between_same same)) more) k

-- In the same state there is one refusal.
pub refuses_one : (held : Held) (loaded : List Text) (begun names : List (List ℕ)) (f g : LoadFault)
    → Refuses (Some held) loaded begun names f → Refuses (Some held) loaded begun names g → IsDecided f → IsDecided g → SameFault f g
refuses_one held loaded begun [] f g a b k l = elim a [ ]
refuses_one held loaded begun (name ∷ names) f g (here not r) (here not' r') k l =
    why_one held (length loaded) begun name f g (why held (length loaded) begun name f r) (why held (length loaded) begun name g r') k l
refuses_one held loaded begun (name ∷ names) f g (here not r) (within y new is inner) k l = absurd (refused_or_read held loaded begun name y f r new is k)
refuses_one held loaded begun (name ∷ names) f g (here not r) (after_known b more) k l = absurd (not b)
refuses_one held loaded begun (name ∷ names) f g (here not r) (after_new y new is inner more) k l = absurd (refused_or_read held loaded begun name y f r new is k)
refuses_one held loaded begun (name ∷ names) f g (within x new is inner) (here not' r') k l = absurd (refused_or_read held loaded begun name x g r' new is l)
refuses_one held loaded begun (name ∷ names) f g (within x new is inner) (within y new' is' inner') k l =
    let same = same_text held name x y is is' in
    refuses_one held loaded (name ∷ begun) (imports_of x) f g inner (subst (λ z. Refuses (Some held) loaded (name ∷ begun) (imports_of z) g) (sym same) inner') k l
refuses_one held loaded begun (name ∷ names) f g (within x new is inner) (after_known b more) k l = absurd (new.not_loaded b)
refuses_one held loaded begun (name ∷ names) f g (within x new is inner) (after_new {between = others} y new' is' inner' more) k l =
    let same = same_text held name x y is is' in
    absurd (not_both held loaded (name ∷ begun) (imports_of x) others f (subst (λ z. Loads (Some held) loaded (name ∷ begun) (imports_of z) others) (sym same) inner') inner k)
refuses_one held loaded begun (name ∷ names) f g (after_known a rest) (here not' r') k l = absurd (not' a)
refuses_one held loaded begun (name ∷ names) f g (after_known a rest) (within y new is inner) k l = absurd (new.not_loaded a)
refuses_one held loaded begun (name ∷ names) f g (after_known a rest) (after_known b more) k l = refuses_one held loaded begun names f g rest more k l
refuses_one held loaded begun (name ∷ names) f g (after_known a rest) (after_new y new is inner more) k l = absurd (new.not_loaded a)
refuses_one held loaded begun (name ∷ names) f g (after_new x new is inner rest) (here not' r') k l = absurd (refused_or_read held loaded begun name x g r' new is l)
refuses_one held loaded begun (name ∷ names) f g (after_new {between = between} x new is inner rest) (within y new' is' inner') k l =
    let same = same_text held name x y is is' in
    absurd (not_both held loaded (name ∷ begun) (imports_of x) between g inner (subst (λ z. Refuses (Some held) loaded (name ∷ begun) (imports_of z) g) (sym same) inner') l)
refuses_one held loaded begun (name ∷ names) f g (after_new x new is inner rest) (after_known b more) k l = absurd (new.not_loaded b)
refuses_one held loaded begun (name ∷ names) f g (after_new {between = between} x new is inner rest) (after_new {between = others} y new' is' inner' more) k l =
    let same = same_text held name x y is is' in
    let between_same = loads_one held loaded (name ∷ begun) (imports_of x) between others inner
    (subst (λ z. Loads (Some held) loaded (name ∷ begun) (imports_of z) others) (sym same) inner') in
    refuses_one held (between ++ x ∷ []) begun names f g rest (subst (λ ts. Refuses (Some held) ts begun names g) (sym (ap₂ (λ ts z. ts ++ z ∷ []) between_same same)) more) k l
