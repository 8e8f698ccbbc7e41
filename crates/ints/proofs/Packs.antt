-- A mask made digit by digit, from the highest down, by `m * 2 + digit`. Assumes nothing.
use mathlib.Core.Path.{◌≡◌, sym, ap, ◌∙◌}
use mathlib.Core.Bool.{Bool, false}
use Prim.Native.Nat.{ℕ, zero, suc, ◌+◌, ◌-◌, ◌*◌, ◌^◌, ◌<◌, ◌≤◌}
use native.Mathlib.Nat.{pow-suc}
use native.Mathlib.Omega.{arith}
use lib.Pow.{pow_mono}
use Rattle.ints.specs.Bits.{bit, digit}
use Rattle.ints.specs.Masks.{IsMask}
use Rattle.ints.proofs.Bits.{digit-le}
use Rattle.ints.proofs.Digits.{bit-none, bit-push-zero, bit-push-suc}

-- m has the digits that f tells from p on, of a mask of n digits
pub record Pack (f : ℕ → Bool) (n p m : ℕ) : Type 0 where
  pub high : p ≤ n
  pub small : m < 2 ^ (n - p)
  pub told : (i : ℕ) → bit m i ≡ f (p + i)

pub pack-none : (f : ℕ → Bool) (n : ℕ) → ((i : ℕ) → n ≤ i → f i ≡ false) → Pack f n n 0
pack-none f n h =
    let z : n - n ≡ 0 = omega arith in
    record { high = omega arith; small = rw z (omega arith); told = λ i. bit-none i ∙ sym (h (n + i) (omega arith)) }

-- while a digit is to come, doubling stays below 2 ^ n
pub pack-bound : (f : ℕ → Bool) (n p m : ℕ) → Pack f n p m → 0 < p → m * 2 + 1 < 2 ^ n
pack-bound f n p m k l =
    let d = pow-suc 2 (n - p) in
    let u : 2 ^ suc (n - p) ≤ 2 ^ n = pow_mono {i = suc (n - p)} {j = n} (omega (arith, k.high)) in
    omega (arith, k.small)

-- the next digit
pub pack-push : (f : ℕ → Bool) (n p m x : ℕ) (t : Bool) → Pack f n p m → 0 < p → f (p - 1) ≡ t → x ≡ m * 2 + digit t → Pack f n (p - 1) x
pack-push f n p m x t k l e q =
    let s : n - (p - 1) ≡ suc (n - p) = omega (arith, k.high) in
    let w = pow-suc 2 (n - p) in
    let d = digit-le t in
    rw q record { high = omega (arith, k.high); small = rw s (omega (arith, k.small)); told = told }
  where
    told : (i : ℕ) → bit (m * 2 + digit t) i ≡ f (p - 1 + i)
    told zero = let z : p - 1 + 0 ≡ p - 1 = omega arith in bit-push-zero m t ∙ sym e ∙ ap f (sym z)
    told (suc i) = let z : p - 1 + suc i ≡ p + i = omega arith in bit-push-suc m t i ∙ k.told i ∙ ap f (sym z)

-- all digits
pub pack-all : (f : ℕ → Bool) (n m : ℕ) → Pack f n 0 m → IsMask f m × (m < 2 ^ n)
pack-all f n m k =
    let e : n - 0 ≡ n = omega arith in
    (λ i. let z : 0 + i ≡ i = omega arith in k.told i ∙ ap f z, rw e at k.small)
