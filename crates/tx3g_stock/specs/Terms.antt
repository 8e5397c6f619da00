-- Terms of the contracts of private functions.
use Rattle.std.specs.Prelude.{ℕ, ◌+◌, ◌≤◌, ◌≡◌}
use Rattle.tx3g_stock.specs.declared.Counts.{Counts}
use Rattle.tx3g_stock.specs.Stock.{counts_by}

-- two counts taken together
abbrev pub together : Counts → Counts → Counts
together a b =
    record {
      hlit = a.hlit + b.hlit;
      retired_blinking = a.retired_blinking + b.retired_blinking;
      hclr = a.hclr + b.hclr;
      krok = a.krok + b.krok;
      dlay = a.dlay + b.dlay;
      href = a.href + b.href;
      tbox = a.tbox + b.tbox;
      twrp = a.twrp + b.twrp;
    }

-- each number is at most n
abbrev pub Each : ℕ → Counts → Type 0
Each n c = (c.hlit ≤ n) × (c.retired_blinking ≤ n) × (c.hclr ≤ n) × (c.krok ≤ n) × (c.dlay ≤ n) × (c.href ≤ n) × (c.tbox ≤ n) × (c.twrp ≤ n)

-- the same, with the number of each kind
pub record AtMost (n : ℕ) (c : Counts) : Type 0 where
  pub by : ℕ → ℕ
  pub is : c ≡ counts_by by
  pub most : (k : ℕ) → by k ≤ n
