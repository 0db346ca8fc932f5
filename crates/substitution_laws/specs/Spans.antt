-- How the entries of two contexts are counted by a substitution between them.
use Rattle.std.specs.Prelude.{◌≡◌, ◌+◌, ◌≤◌, ℕ, zero, suc}
use Rattle.trees.specs.Trees.{Subst, count_of}
use Rattle.trees.specs.Judgements.{Context, Nil, WithVar, WithName, WithFace}

-- the number of variables and names
abbrev pub size_of : Context → ℕ
size_of Nil = zero
size_of (WithVar G A) = suc (size_of G)
size_of (WithName G) = suc (size_of G)
size_of (WithFace G p) = size_of G

-- From H to G: what is left of H past the shift, and the pushed trees, are the entries of G.
pub record Spans (H : Context) (d : Subst) (G : Context) : Type 0 where
  pub within : d.shift ≤ size_of H
  pub count : size_of G + d.shift ≡ count_of d.pushed + size_of H
