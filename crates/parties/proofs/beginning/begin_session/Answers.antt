use Rattle.std.proofs.Common.{◌≡◌, ◌∙◌, ◌-◌, false, ap, inr, map, refl, slice_get, slice_set, sym}
use Rattle.std.specs.List.{insert}
use Rattle.std.proofs.lemmas.List.{map-set}
use Rattle.std.proofs.lemmas.Option.{same_Some}
use Rattle.session_known.specs.Session.{Knowledge, handed}
use Rattle.session_proxy.specs.State.{Knew, PlainProxy, WaitsFor}
use Rattle.party_turns.proofs.ItemsLemmas.{mapped}
use Rattle.parties.proofs.BeginningLemmas.{put_back, waits_yet}
use Rattle.parties.proofs.ChangedLemmas.{read_there}
use Rattle.parties.proofs.OneChangedLemmas.{now_made}
use Rattle.parties.specs.Session.{Waits, proxy_of}
use Rattle.parties.specs.declared.session.SessionOver.{SessionOver}
use Rattle.parties.specs.declared.session.SessionOver.TheVariants as levels
use Rattle.parties.proofs.beginning.begin_session.Given.{Over}
use Rattle.parties.proofs.beginning.begin_session.Goals as goal
use Rattle.parties.proofs.beginning.begin_session.Goals.{In_ok-insert}

-- one that waits for another awaits no reply
silent : {T R TK From RK FromK : Type 0} (session : SessionOver T R TK From RK FromK) → Waits session → (proxy_of session).course.waits ≡ false
silent (levels.Eventual proxy) waits = absurd waits
silent (levels.Committed proxy) waits = absurd waits
silent (levels.Causal proxy) waits = absurd waits
silent (levels.Waiting waiting) waits = refl

module _ (g : Over) (c : In_ok-insert g) where
  -- it stands where it stood
  now_is : map proxy_of c.insert.new.self.items ≡ map proxy_of (slice_set c.args.sessions.now.items c.args.place c.in_ok-session.session)
  now_is =
      ap (map proxy_of) (c.in_ok-insert.ensures.items ∙ ap (λ items. insert items c.args.place c.in_ok-session.session) c.remove.ensures.items
      ∙ put_back c.args.sessions.now.items c.args.place c.in_ok-session.session c.requires)

pub returns-clause-begins : goal.returns-clause-begins
returns-clause-begins g c =
    let sessions = c.args.sessions.now.items in
    let read = read_there sessions c.args.place c.index.result.now c.requires c.index.ensures in
    let taken = read_there sessions c.args.place c.remove.result c.requires c.remove.ensures.value in
    let session_is = same_Some c.index.result.now c.remove.result (sym read ∙ taken) in
    let waits = c.in-Some.ensures.waits in
    let number = c.after.ensures in
    let ended = c.in-Some-known_at_end.ensures.known in
    inr (
      proxy_of c.in_ok-session.session,
      now_is g c ∙ map-set proxy_of sessions c.args.place c.in_ok-session.session,
      λ was there.
          let its : proxy_of c.index.result.now ≡ was = same_Some (proxy_of c.index.result.now) was (sym (mapped proxy_of sessions c.args.place c.index.result.now read) ∙ there) in
          let is : proxy_of c.remove.result ≡ was = ap proxy_of (sym session_is) ∙ its in
          record {
            session = c.after.result;
            waited = ap (λ (proxy : PlainProxy _ _). proxy.course.origin) (sym its ∙ waits.1) ∙ ap WaitsFor (sym number);
            other = ended.0;
            there = ap (λ all. slice_get (map proxy_of all) (c.after.result - 1)) (sym c.deref.ensures.value) ∙ ended.1;
            ended = ended.2.0;
            course =
                ap (λ (proxy : PlainProxy _ _). proxy.course) c.in_ok-session.ensures.proxy
                ∙ ap (λ (proxy : PlainProxy _ _). record proxy.course { origin = Knew c.in_ok-known.known.knows }) is
                ∙ ap (λ (knows : Knowledge). record was.course { origin = Knew knows }) (c.in_ok-known.ensures.knows ∙ ap handed ended.2.1);
            ends = ap (λ (proxy : PlainProxy _ _). proxy.ends) c.in_ok-session.ensures.proxy ∙ ap (λ (proxy : PlainProxy _ _). proxy.ends) is;
            share = c.in_ok-session.ensures.share;
            silent = ap (λ (proxy : PlainProxy _ _). proxy.course.waits) (sym its) ∙ silent c.index.result.now waits.0;
          },
    )

pub returns-clause-waits : goal.returns-clause-waits
returns-clause-waits g c its session there waits other here ended =
    let is = now_made proxy_of c.args.sessions.now.items c.args.place c.in_ok-session.session c.requires its (sym (ap (λ all. slice_get all c.args.place) (now_is g c)) ∙ there) in
    absurd (waits_yet its.course.origin session waits c.in_ok-known.known.knows
    (ap (λ (proxy : PlainProxy _ _). proxy.course.origin) (sym is) ∙ ap (λ (proxy : PlainProxy _ _). proxy.course.origin) c.in_ok-session.ensures.proxy))
