-- The words of the text of an operator: what stands before its first kid and after each.
use Rattle.std.specs.Prelude.{Bool, true, false}
use Rattle.std.specs.Prelude.{ℕ, zero, suc, List, [], ◌∷◌, ◌++◌, codes, decimal, map}
use Rattle.trees.specs.declared.op.Op.{Op}
use Rattle.trees.specs.declared.op.Op.TheVariants as op
use Rattle.trees.specs.Operators.{binds_of}
use Rattle.trees.specs.Trees.{Tree}
use Rattle.tree_texts.specs.declared.words.Sort.{Sort}
use Rattle.tree_texts.specs.declared.words.Sort.TheVariants as sort
use Rattle.tree_texts.specs.declared.words.Form.{Form}
use Rattle.tree_texts.specs.declared.words.Form.TheVariants as form
use Rattle.tree_texts.specs.declared.words.Style.{Style}
use Rattle.tree_texts.specs.declared.words.Style.TheVariants as style
use Rattle.tree_texts.specs.declared.words.Phrase.{Phrase}
use Rattle.tree_texts.specs.declared.words.Phrase.TheVariants as phrase
use Rattle.tree_texts.specs.Show.{Text, shown, formula, conjunction, faces, terms, line, pairs}
use Rattle.tree_texts.specs.Show.{sides}

-- the text of a tree of a sort
abbrev pub text_as : Sort → ℕ → Tree → Text
text_as sort.Term n t = shown n t
text_as sort.Formula n t = formula n t
text_as sort.Conjunction n t = conjunction n t

-- how an operator is shown
abbrev pub form_of : Op → Form
form_of op.I0 = form.Plain sort.Formula
form_of op.I1 = form.Plain sort.Formula
form_of op.Neg = form.Plain sort.Formula
form_of op.Min = form.Plain sort.Formula
form_of op.Max = form.Plain sort.Formula
form_of op.F0 = form.Hidden
form_of op.F1 = form.Plain sort.Conjunction
form_of op.Eq0 = form.Plain sort.Conjunction
form_of op.Eq1 = form.Plain sort.Conjunction
form_of op.Meet = form.Plain sort.Conjunction
form_of op.Join = form.Hidden
form_of op.All = form.Hidden
form_of op.Sys = form.Hidden
form_of op.Empty = form.Hidden
form_of op.Comp = form.WithSystem
form_of op.GlueType = form.WithSystem
form_of op.Glue = form.WithSystem
form_of op.Unglue = form.WithSystem
form_of _ = form.Plain sort.Term

-- what stands first, before the level of what is bound where there is one
abbrev pub opening : Op → Text
opening op.I0 = codes "0"
opening op.I1 = codes "1"
opening op.Neg = codes "-"
opening op.F1 = []
opening op.Meet = []
opening op.U = codes "U"
opening op.Pi = codes "((x"
opening op.Lam = codes "(\\(x"
opening op.Sig = codes "((x"
opening op.Fst = []
opening op.Snd = []
opening op.PathP = codes "(PathP (<i"
opening op.PLam = codes "(<i"
opening op.Nat = codes "nat"
opening op.Zero = codes "zero"
opening op.Suc = codes "(suc "
opening op.NatRec = codes "(natrec (\\(x"
opening op.Comp = codes "(comp (<i"
opening op.GlueType = codes "(Glue "
opening op.Glue = codes "(glue "
opening op.Unglue = codes "(unglue "
opening _ = codes "("

-- what stands after the level, of an operator that binds
abbrev pub after_level : Op → Text
after_level op.Pi = codes " : "
after_level op.Lam = codes " : "
after_level op.Sig = codes " : "
after_level op.PathP = codes "> "
after_level op.PLam = codes "> "
after_level op.NatRec = codes " : nat) -> "
after_level op.Comp = codes "> "
after_level _ = []

abbrev pub chosen : {A : Type 0} → A → A → A → A → ℕ → A
chosen a b c d zero = a
chosen a b c d (suc zero) = b
chosen a b c d (suc (suc zero)) = c
chosen a b c d (suc (suc (suc k))) = d

-- what stands after the kid at a place
abbrev pub after_kid : Op → ℕ → Text
after_kid op.Min at = chosen (codes " /\\ ") (codes ")") [] [] at
after_kid op.Max at = chosen (codes " \\/ ") (codes ")") [] [] at
after_kid op.Eq0 at = codes "=0)"
after_kid op.Eq1 at = codes "=1)"
after_kid op.Pi at = chosen (codes ") -> ") (codes ")") [] [] at
after_kid op.Lam at = chosen (codes ") -> ") (codes ")") [] [] at
after_kid op.App at = chosen (codes " ") (codes ")") [] [] at
after_kid op.Sig at = chosen (codes ") * ") (codes ")") [] [] at
after_kid op.Pair at = chosen (codes ",") (codes ")") [] [] at
after_kid op.Fst at = codes ".1"
after_kid op.Snd at = codes ".2"
after_kid op.PathP at = chosen (codes ") ") (codes " ") (codes ")") [] at
after_kid op.PLam at = codes ")"
after_kid op.PApp at = chosen (codes " @ ") (codes ")") [] [] at
after_kid op.Suc at = codes ")"
after_kid op.NatRec at = chosen (codes ") ") (codes " ") (codes " ") (codes ")") at
after_kid _ at = []

abbrev pub kid_sort : Op → ℕ → Sort
kid_sort op.Neg at = sort.Formula
kid_sort op.Min at = sort.Formula
kid_sort op.Max at = sort.Formula
kid_sort op.Eq0 at = sort.Formula
kid_sort op.Eq1 at = sort.Formula
kid_sort op.Meet at = sort.Conjunction
kid_sort op.PApp at = chosen sort.Term sort.Formula sort.Formula sort.Formula at
kid_sort _ at = sort.Term

abbrev pub level_onto : ℕ → Text → Text → Text
level_onto n [] rest = rest
level_onto n (b ∷ words) rest = decimal n ++ ((b ∷ words) ++ rest)

-- the words of an operator that binds level n, before this text
abbrev pub begun : Op → ℕ → Text → Text
begun op n rest = opening op ++ level_onto n (after_level op) rest

-- the level below so many more binders
abbrev pub below : ℕ → ℕ → ℕ
below zero n = n
below (suc b) n = suc (below b n)

-- the kids of an operator from a place on, each with what stands after it
abbrev pub kids_text : ℕ → Op → ℕ → List Tree → Text
kids_text n op at [] = []
kids_text n op at (t ∷ ts) =
    text_as (kid_sort op at) (below (binds_of op at) n) t
    ++ (after_kid op at ++ kids_text n op (suc at) ts)

abbrev pub words_of : Phrase → Text
words_of phrase.EndLine = codes ") "
words_of phrase.Space = codes " "
words_of phrase.Comma = codes ","
words_of phrase.Close = codes ")"

-- what stands between the face of a side and its term
abbrev pub arrow : Style → ℕ → Text
arrow style.Lines n = codes " -> <i" ++ (decimal n ++ codes "> ")
arrow style.Terms n = codes " -> "
arrow style.Pairs n = codes " -> ("

-- the sides of a system, of which the second tree has the second halves of pairs
abbrev pub sides_of : Style → ℕ → Tree → Tree → List Text
sides_of style.Lines n b w = sides (faces (suc n) b) (map (line n) (terms (suc n) b))
sides_of style.Terms n b w = sides (faces n b) (terms n b)
sides_of style.Pairs n b w = sides (faces n b) (pairs (terms n b) (terms n w))

-- what stands before a side, and where a system ends
abbrev pub begin_of : Bool → Text
begin_of true = codes "[ "
begin_of false = codes ", "

abbrev pub end_of : Bool → Text
end_of true = codes "[]"
end_of false = codes " ]"
