-- The stores are the bytes of the character, by its number.
use mathlib.Core.List.{[], ◌∷◌}
use Prim.Native.Nat.{◌+◌, ◌/◌, ◌%◌}
use native.Mathlib.Numerals.{towards_suc}
use Rattle.base.proofs.Over.{sets-wrote}
use Rattle.tx3g_payload_write.proofs.Characters.{form-1, form-2, form-3, form-4}
use Rattle.tx3g_payload_write.proofs.Stores.{wrote_as}
use native.Mathlib.Omega.{arith}
use lib.ListN.{length-set}
use Rattle.tx3g_payload_write.proofs.put_character.Goals as goal

pub returns-then-c-lt128 : goal.returns-then-c-lt128
returns-then-c-lt128 c =
    let n = c.args.c in
    wrote_as _ _ _ _ _ _ _ (form-1 n (omega arith)) (omega arith, omega arith, sets-wrote c.args.out.now c.args.at (n ∷ []) (omega arith))

pub returns-then-c-lt2048 : goal.returns-then-c-lt2048
returns-then-c-lt2048 c =
    let n = c.args.c in
    wrote_as _ _ _ _ _ _ _ (form-2 n (omega arith) (omega arith))
    (omega arith, omega arith, rw (← sets-wrote c.args.out.now c.args.at ((0xC0 + n / 64) ∷ (0x80 + n % 64) ∷ []) (omega arith)) (simp towards_suc))

pub returns-then-c-lt65536 : goal.returns-then-c-lt65536
returns-then-c-lt65536 c =
    let n = c.args.c in
    wrote_as _ _ _ _ _ _ _ (form-3 n (omega arith) (omega arith))
    (omega arith, omega arith, rw (← sets-wrote c.args.out.now c.args.at ((0xE0 + n / 4096) ∷ (0x80 + n / 64 % 64) ∷ (0x80 + n % 64) ∷ []) (omega arith)) (simp towards_suc))

pub returns : goal.returns
returns c =
    let n = c.args.c in
    wrote_as _ _ _ _ _ _ _ (form-4 n (omega arith))
    (omega arith, omega arith, rw (← sets-wrote c.args.out.now c.args.at ((0xF0 + n / 262144) ∷ (0x80 + n / 4096 % 64) ∷ (0x80 + n / 64 % 64) ∷ (0x80 + n % 64) ∷ []) (omega arith)) (simp towards_suc))

pub bounds-out-at-then-c-lt2048-2 : goal.bounds-out-at-then-c-lt2048-2
bounds-out-at-then-c-lt2048-2 c = simp length-set (omega arith)

pub bounds-out-at-then-c-lt65536-2 : goal.bounds-out-at-then-c-lt65536-2
bounds-out-at-then-c-lt65536-2 c = simp length-set (omega arith)

pub bounds-out-at-then-c-lt65536-3 : goal.bounds-out-at-then-c-lt65536-3
bounds-out-at-then-c-lt65536-3 c = simp length-set (omega arith)

pub bounds-out-at-3 : goal.bounds-out-at-3
bounds-out-at-3 c = simp length-set (omega arith)

pub bounds-out-at-4 : goal.bounds-out-at-4
bounds-out-at-4 c = simp length-set (omega arith)

pub bounds-out-at-5 : goal.bounds-out-at-5
bounds-out-at-5 c = simp length-set (omega arith)
