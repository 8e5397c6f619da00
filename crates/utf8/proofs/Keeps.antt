-- The common part of the text rules, from its parts.
use Prim.Native.Nat.{ℕ}
use mathlib.Core.Path.{◌≡◌, sym}
use mathlib.Core.Bool.{true, false}
use mathlib.Core.List.{List, [], ◌++◌, append-nil}
use Rattle.base.proofs.Tests.{both_yes, both-no}
use Rattle.utf8.specs.Utf8.{judge, utf8, begun, utf8_begun}
use Rattle.utf8.specs.Strings.{has_any}
use Rattle.utf8.specs.Forbidden.{forbidden, keeps, keeps_begun}
use Rattle.utf8.specs.declared.Rule.{Rule}
use Rattle.utf8.specs.declared.Rule.TheVariants.{Any}
use Rattle.utf8.proofs.Windows.{any_none}

pub keeps-clean : (rule : Rule) (s : List ℕ) → has_any (forbidden rule) (s ++ []) ≡ false → judge (s ++ []) [] ≡ keeps rule s
unfolding keeps utf8
keeps-clean rule s h = let k : has_any (forbidden rule) s ≡ false = rw (append-nil s) at h in rw (append-nil s, k) (sym (both_yes (judge s [])))

pub begun-clean : (rule : Rule) (s : List ℕ) → has_any (forbidden rule) (s ++ []) ≡ false → begun (s ++ []) [] ≡ keeps_begun rule s
unfolding keeps_begun utf8_begun
begun-clean rule s h = let k : has_any (forbidden rule) s ≡ false = rw (append-nil s) at h in rw (append-nil s, k) (sym (both_yes (begun s [])))

pub begun-found : (rule : Rule) (s : List ℕ) → has_any (forbidden rule) (s ++ []) ≡ true → keeps_begun rule s ≡ false
unfolding keeps_begun
begun-found rule s h = let k : has_any (forbidden rule) s ≡ true = rw (append-nil s) at h in rw k (both-no (utf8_begun s))

pub begun-no-utf8 : (rule : Rule) (s : List ℕ) → begun (s ++ []) [] ≡ false → keeps_begun rule s ≡ false
unfolding keeps_begun utf8_begun
begun-no-utf8 rule s h = let k : begun s [] ≡ false = rw (append-nil s) at h in rw k

pub any-is : (s : List ℕ) → keeps Any s ≡ utf8 s
unfolding keeps forbidden
any-is s = rw (any_none s) (both_yes (utf8 s))
