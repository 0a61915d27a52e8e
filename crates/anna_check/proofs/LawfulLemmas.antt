-- Replies and ends of asking, by the tests that they pass.
use Rattle.std.specs.Cmp.Derive.{both_true}
use Rattle.std.specs.Prelude.{◌≡◌, ◌↔◌, ℕ, ◌*◌, ◌&&◌, leb, not, Bool, true, false, IsTrue, IsFalse, List, length, Option}
use Rattle.std.proofs.Common.{refl, sym, ap, ◌∙◌}
use Rattle.std.proofs.lemmas.Bool.{and_parts, leb-true, le-leb, true≢false}
use Rattle.clock_lattice.specs.Clock.{count_of, covers}
use Rattle.placement.specs.Asked.{replicas_of, last_asked}
use Rattle.session_known.specs.Lawful.{MayReply, required, IsClockFrom, IsLawfulReply, IsLawfulAgain}
use Rattle.session_known.specs.Session.{Client, Knowledge, own_count}
use Rattle.session_known.specs.declared.report.Answer.{Answer}
use Rattle.session_known.specs.declared.script.Level.TheVariants.{Causal}
use Rattle.session_known.specs.declared.script.Line.{Line}

-- a test whose negation passes fails
not_true : (t : Bool) → IsTrue (not t) → IsFalse t
not_true true is = absurd (true≢false (sym is))
not_true false is = refl

module _ (table : List (List ℕ)) (client : Client) (knows : Knowledge) (earlier : List (Line × Answer)) (line : Line) (key : ℕ) (worker : ℕ) (clock : List (ℕ × ℕ)) where
  -- A reply is lawful where each of its four tests says so.
  pub reply_tested : (named : Option ℕ) (may is fewer covering : Bool) → (IsTrue may ↔ MayReply client.level table client.session key named worker) → (IsTrue is ↔ IsClockFrom table client knows earlier key worker clock) → fewer ≡ leb (count_of client.session clock) (own_count knows key) → covering ≡ covers clock (required client knows line)
      → IsTrue (((may && is) && fewer) && covering) ↔ IsLawfulReply table client knows earlier line key named worker clock
  reply_tested named may is fewer covering of_may of_is of_fewer of_covering = (
    (λ all.
        let first = (and_parts ((may && is) && fewer) covering all).0 in
        let second = (and_parts (may && is) fewer first).0 in
        record {
          worker_is = of_may.0 (and_parts may is second).0;
          clock_is = of_is.0 (and_parts may is second).1;
          no_later_put = leb-true _ _ (sym of_fewer ∙ (and_parts (may && is) fewer first).1);
          covers_required = sym of_covering ∙ (and_parts ((may && is) && fewer) covering all).1;
        }),
    (λ lawful.
        both_true {s = (may && is) && fewer} {t = covering} (both_true {s = may && is} {t = fewer} (both_true {s = may} {t = is} (of_may.1 lawful.worker_is) (of_is.1 lawful.clock_is)) (of_fewer ∙ le-leb _ _ lawful.no_later_put)) (of_covering ∙ lawful.covers_required)),
  )

  -- An end of asking is lawful where each of its five tests says so.
  pub again_tested : (asks : ℕ) (causal asked last is covering : Bool) → (IsTrue causal ↔ (client.level ≡ Causal)) → (IsTrue asked ↔ (asks ≡ 8 * length (replicas_of table key))) → (IsTrue last ↔ (worker ≡ last_asked table client.session key)) → (IsTrue is ↔ IsClockFrom table client knows earlier key worker clock) → covering ≡ covers clock (required client knows line)
      → IsTrue ((((causal && asked) && last) && is) && not covering) ↔ IsLawfulAgain table client knows earlier line key asks worker clock
  again_tested asks causal asked last is covering of_causal of_asked of_last of_is of_covering = (
    (λ all.
        let first = (and_parts (((causal && asked) && last) && is) (not covering) all).0 in
        let second = (and_parts ((causal && asked) && last) is first).0 in
        let third = (and_parts (causal && asked) last second).0 in
        record {
          causal = of_causal.0 (and_parts causal asked third).0;
          asks_are = of_asked.0 (and_parts causal asked third).1;
          worker_is = of_last.0 (and_parts (causal && asked) last second).1;
          clock_is = of_is.0 (and_parts ((causal && asked) && last) is first).1;
          lacks_required = sym of_covering ∙ not_true covering (and_parts (((causal && asked) && last) && is) (not covering) all).1;
        }),
    (λ lawful.
        let third = both_true {s = causal} {t = asked} (of_causal.1 lawful.causal) (of_asked.1 lawful.asks_are) in
        let second = both_true {s = causal && asked} {t = last} third (of_last.1 lawful.worker_is) in
        let first = both_true {s = (causal && asked) && last} {t = is} second (of_is.1 lawful.clock_is) in
        both_true {s = ((causal && asked) && last) && is} {t = not covering} first (ap not (of_covering ∙ lawful.lacks_required))),
  )
