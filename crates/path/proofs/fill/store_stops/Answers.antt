-- `path::store_stops` meets its contract: after i turns the buffers hold the first i stops.
use mathlib.Core.Path.{◌≡◌, refl, ◌∙◌}
use Prim.Native.Nat.{ℕ}
use native.Mathlib.Omega.{arith}
use Rattle.stop.specs.Lent.{coords_of, speeds_of, blends_of, dwells_of}
use Rattle.stop.specs.declared.Stop.{Stop}
use Rattle.path.proofs.FillLaws.{next-coords, next-speeds, next-blends, next-dwells}
use Rattle.path.specs.Path.{stop_in}
use Rattle.path.proofs.fill.store_stops.Goals as goal

pub loop-i-init : goal.loop-i-init
unfolding coords_of speeds_of blends_of dwells_of
loop-i-init c = (omega arith, refl, refl, refl, refl, refl, refl, refl, refl)

pub loop-i-preserved : goal.loop-i-preserved
loop-i-preserved c =
    let a = c.args in let i = c.loop-i.i in let f : ℕ → Stop = λ (j : ℕ). stop_in a.path.version j a.path.bytes.now in
    let from : c.stop.result ≡ f i = c.stop.ensures in
    let places = c.requires in let inv = c.loop-i.invariant in (
      omega arith,
      next-coords i f a.coords.now _ _ _ (omega (arith, places)) from inv.1 c.store_stop.ensures.coords_after,
      next-speeds i f a.speeds.now _ _ _ (omega (arith, places)) from inv.2 c.store_stop.ensures.speeds_after,
      next-blends i f a.blends.now _ _ _ (omega (arith, places)) from inv.3 c.store_stop.ensures.blends_after,
      next-dwells i f a.dwells.now _ _ _ (omega (arith, places)) from inv.4 c.store_stop.ensures.dwells_after,
      c.store_stop.auto.coords ∙ inv.5,
      c.store_stop.auto.speeds ∙ inv.6,
      c.store_stop.auto.blends ∙ inv.7,
      c.store_stop.auto.dwells ∙ inv.8,
    )
