use Rattle.std.proofs.Common.{◌≡◌, ◌∙◌, sym, ap, List, ℕ}
use Rattle.std.specs.Str.{bytes_eq}
use Rattle.ride_base.specs.Stored.{name_of}
use Rattle.ride_base.proofs.Stored.{last_here, last_there, text_here, same_bytes}
use Rattle.ride_base.proofs.memory.last_of.Goals.{then-eq, else-eq}
use Rattle.ride_base.proofs.memory.last_of.Goals as goal

pub loop-i-preserved : goal.loop-i-preserved
loop-i-preserved c =
    let texts = c.args.texts.now in
    let name = c.args.name.now in
    let text = c.index-texts-i.result in
    let test : bytes_eq text.name name ≡ c.eq.result = ap (λ (x : List ℕ). bytes_eq x name) (sym c.as_slice.ensures) ∙ sym c.eq.ensures in
    elim c.if-eq.branch [
      | then-eq w ↦ rw w.last-is (record {
        text = last_here texts name c.loop-i.last c.loop-i.i text c.loop-i-test.true c.index-texts-i.is (test ∙ w.if-eq.true) c.loop-i.invariant.text;
        named = ap name_of (text_here texts c.loop-i.i text c.loop-i-test.true c.index-texts-i.is) ∙ same_bytes text.name name (test ∙ w.if-eq.true);
        within = c.loop-i-test.true;
      })
      | else-eq w ↦ rw w.last-is (record {
        text = last_there texts name c.loop-i.last c.loop-i.i text c.loop-i-test.true c.index-texts-i.is (test ∙ w.if-eq.false) c.loop-i.invariant.text;
        named = c.loop-i.invariant.named;
        within = c.loop-i.invariant.within;
      })
    ]
