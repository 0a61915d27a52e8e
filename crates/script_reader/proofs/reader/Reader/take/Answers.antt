use Rattle.std.proofs.Common.{[], ◌∷◌, map, refl, ap, ◌∙◌}
use Rattle.std.proofs.lemmas.Result.{err_from_is_err_and}
use Rattle.script_reader.proofs.CommandLemmas.{shown, stands_at, reads_at}
use Rattle.script_reader.proofs.reader.Reader.take.Goals as goal
use Rattle.script_reader.specs.Reader.{so_far}
use Rattle.script_reader.specs.declared.entry.Bare.TheVariants as bares
use Rattle.script_reader.specs.declared.entry.Entry.TheVariants as entries
use Rattle.script_reader.specs.declared.keyword.Keyword.TheVariants.{Anna, Workers, Factor, Round, Key, Session, Put, Get, Await, Begin, Commit, Abort, End}

pub take_workers-requires : goal.take_workers-requires
take_workers-requires c =
    let shows = shown (entries.Workers c.in-Workers.number) c.args.keyword (map (λ word. word.now) c.args.words.now) c.in-Workers.is c.in_ok-version.ensures.0 in
    record { kept = c.requires.kept; stands = stands_at (so_far c.args.self.now) _ Workers _ (c.in-Workers.number.now ∷ []) shows.0 shows.1 c.in_ok-version.ensures.1 }

pub returns-in-Workers : goal.returns-in-Workers
returns-in-Workers c =
    let shows = shown (entries.Workers c.in-Workers.number) c.args.keyword (map (λ word. word.now) c.args.words.now) c.in-Workers.is c.in_ok-version.ensures.0 in
    reads_at c.args.self.now c.take_workers.new.self c.take_workers.result _ Workers _ (c.in-Workers.number.now ∷ []) shows.0 shows.1 c.take_workers.ensures

pub take_factor-requires : goal.take_factor-requires
take_factor-requires c =
    let shows = shown (entries.Factor c.in-Factor.number) c.args.keyword (map (λ word. word.now) c.args.words.now) c.in-Factor.is c.in_ok-version.ensures.0 in
    record { kept = c.requires.kept; stands = stands_at (so_far c.args.self.now) _ Factor _ (c.in-Factor.number.now ∷ []) shows.0 shows.1 c.in_ok-version.ensures.1 }

pub returns-in-Factor : goal.returns-in-Factor
returns-in-Factor c =
    let shows = shown (entries.Factor c.in-Factor.number) c.args.keyword (map (λ word. word.now) c.args.words.now) c.in-Factor.is c.in_ok-version.ensures.0 in
    reads_at c.args.self.now c.take_factor.new.self c.take_factor.result _ Factor _ (c.in-Factor.number.now ∷ []) shows.0 shows.1 c.take_factor.ensures

pub take_round-requires : goal.take_round-requires
take_round-requires c =
    let shows = shown (entries.Round c.in-Round.number) c.args.keyword (map (λ word. word.now) c.args.words.now) c.in-Round.is c.in_ok-version.ensures.0 in
    record { kept = c.requires.kept; stands = stands_at (so_far c.args.self.now) _ Round _ (c.in-Round.number.now ∷ []) shows.0 shows.1 c.in_ok-version.ensures.1 }

pub returns-in-Round : goal.returns-in-Round
returns-in-Round c =
    let shows = shown (entries.Round c.in-Round.number) c.args.keyword (map (λ word. word.now) c.args.words.now) c.in-Round.is c.in_ok-version.ensures.0 in
    reads_at c.args.self.now c.take_round.new.self c.take_round.result _ Round _ (c.in-Round.number.now ∷ []) shows.0 shows.1 c.take_round.ensures

pub take_get-requires : goal.take_get-requires
take_get-requires c =
    let shows = shown (entries.Get c.in-Get.key) c.args.keyword (map (λ word. word.now) c.args.words.now) c.in-Get.is c.in_ok-version.ensures.0 in
    record { kept = c.requires.kept; stands = stands_at (so_far c.args.self.now) _ Get _ (c.in-Get.key.now ∷ []) shows.0 shows.1 c.in_ok-version.ensures.1 }

pub returns-in-Get : goal.returns-in-Get
returns-in-Get c =
    let shows = shown (entries.Get c.in-Get.key) c.args.keyword (map (λ word. word.now) c.args.words.now) c.in-Get.is c.in_ok-version.ensures.0 in
    reads_at c.args.self.now c.take_get.new.self c.take_get.result _ Get _ (c.in-Get.key.now ∷ []) shows.0 shows.1 c.take_get.ensures

pub take_get_from-requires : goal.take_get_from-requires
take_get_from-requires c =
    let shows = shown (entries.GetFrom c.in-GetFrom.key c.in-GetFrom.worker) c.args.keyword (map (λ word. word.now) c.args.words.now) c.in-GetFrom.is c.in_ok-version.ensures.0 in
    record { kept = c.requires.kept; stands = stands_at (so_far c.args.self.now) _ Get _ (c.in-GetFrom.key.now ∷ c.in-GetFrom.worker.now ∷ []) shows.0 shows.1 c.in_ok-version.ensures.1 }

pub returns-in-GetFrom : goal.returns-in-GetFrom
returns-in-GetFrom c =
    let shows = shown (entries.GetFrom c.in-GetFrom.key c.in-GetFrom.worker) c.args.keyword (map (λ word. word.now) c.args.words.now) c.in-GetFrom.is c.in_ok-version.ensures.0 in
    reads_at c.args.self.now c.take_get_from.new.self c.take_get_from.result _ Get _ (c.in-GetFrom.key.now ∷ c.in-GetFrom.worker.now ∷ []) shows.0 shows.1 c.take_get_from.ensures

pub take_await-requires : goal.take_await-requires
take_await-requires c =
    let shows = shown (entries.Await c.in-Await.key c.in-Await.session c.in-Await.count) c.args.keyword (map (λ word. word.now) c.args.words.now) c.in-Await.is c.in_ok-version.ensures.0 in
    record { kept = c.requires.kept; stands = stands_at (so_far c.args.self.now) _ Await _ (c.in-Await.key.now ∷ c.in-Await.session.now ∷ c.in-Await.count.now ∷ []) shows.0 shows.1 c.in_ok-version.ensures.1 }

pub returns-in-Await : goal.returns-in-Await
returns-in-Await c =
    let shows = shown (entries.Await c.in-Await.key c.in-Await.session c.in-Await.count) c.args.keyword (map (λ word. word.now) c.args.words.now) c.in-Await.is c.in_ok-version.ensures.0 in
    reads_at c.args.self.now c.take_await.new.self c.take_await.result _ Await _ (c.in-Await.key.now ∷ c.in-Await.session.now ∷ c.in-Await.count.now ∷ []) shows.0 shows.1 c.take_await.ensures

pub take_begin-requires : goal.take_begin-requires
take_begin-requires c =
    let shows = shown (entries.Bare bares.Begin) c.args.keyword (map (λ word. word.now) c.args.words.now) (c.in-Bare-Begin.is ∙ ap entries.Bare c.in-Bare-Begin.field-0-is) c.in_ok-version.ensures.0 in
    record { kept = c.requires.kept; stands = stands_at (so_far c.args.self.now) _ Begin _ [] shows.0 shows.1 c.in_ok-version.ensures.1 }

pub returns-in-Bare-Begin : goal.returns-in-Bare-Begin
returns-in-Bare-Begin c =
    let shows = shown (entries.Bare bares.Begin) c.args.keyword (map (λ word. word.now) c.args.words.now) (c.in-Bare-Begin.is ∙ ap entries.Bare c.in-Bare-Begin.field-0-is) c.in_ok-version.ensures.0 in
    reads_at c.args.self.now c.take_begin.new.self c.take_begin.result _ Begin _ [] shows.0 shows.1 c.take_begin.ensures

pub take_commit-requires : goal.take_commit-requires
take_commit-requires c =
    let shows = shown (entries.Bare bares.Commit) c.args.keyword (map (λ word. word.now) c.args.words.now) (c.in-Bare-Commit.is ∙ ap entries.Bare c.in-Bare-Commit.field-0-is) c.in_ok-version.ensures.0 in
    record { kept = c.requires.kept; stands = stands_at (so_far c.args.self.now) _ Commit _ [] shows.0 shows.1 c.in_ok-version.ensures.1 }

pub returns-in-Bare-Commit : goal.returns-in-Bare-Commit
returns-in-Bare-Commit c =
    let shows = shown (entries.Bare bares.Commit) c.args.keyword (map (λ word. word.now) c.args.words.now) (c.in-Bare-Commit.is ∙ ap entries.Bare c.in-Bare-Commit.field-0-is) c.in_ok-version.ensures.0 in
    reads_at c.args.self.now c.take_commit.new.self c.take_commit.result _ Commit _ [] shows.0 shows.1 c.take_commit.ensures

pub take_abort-requires : goal.take_abort-requires
take_abort-requires c =
    let shows = shown (entries.Bare bares.Abort) c.args.keyword (map (λ word. word.now) c.args.words.now) (c.in-Bare-Abort.is ∙ ap entries.Bare c.in-Bare-Abort.field-0-is) c.in_ok-version.ensures.0 in
    record { kept = c.requires.kept; stands = stands_at (so_far c.args.self.now) _ Abort _ [] shows.0 shows.1 c.in_ok-version.ensures.1 }

pub returns-in-Bare-Abort : goal.returns-in-Bare-Abort
returns-in-Bare-Abort c =
    let shows = shown (entries.Bare bares.Abort) c.args.keyword (map (λ word. word.now) c.args.words.now) (c.in-Bare-Abort.is ∙ ap entries.Bare c.in-Bare-Abort.field-0-is) c.in_ok-version.ensures.0 in
    reads_at c.args.self.now c.take_abort.new.self c.take_abort.result _ Abort _ [] shows.0 shows.1 c.take_abort.ensures

pub take_end-requires : goal.take_end-requires
take_end-requires c =
    let shows = shown (entries.Bare bares.End) c.args.keyword (map (λ word. word.now) c.args.words.now) (c.in-Bare-End.is ∙ ap entries.Bare c.in-Bare-End.field-0-is) c.in_ok-version.ensures.0 in
    record { kept = c.requires.kept; stands = stands_at (so_far c.args.self.now) _ End _ [] shows.0 shows.1 c.in_ok-version.ensures.1 }

pub returns-in-Bare-End : goal.returns-in-Bare-End
returns-in-Bare-End c =
    let shows = shown (entries.Bare bares.End) c.args.keyword (map (λ word. word.now) c.args.words.now) (c.in-Bare-End.is ∙ ap entries.Bare c.in-Bare-End.field-0-is) c.in_ok-version.ensures.0 in
    reads_at c.args.self.now c.args.self.now c.take_end.result _ End _ [] shows.0 shows.1 c.take_end.ensures

pub take_put-requires : goal.take_put-requires
take_put-requires c =
    let shows = shown (entries.Put c.in-Put.key c.in-Put.payload) c.args.keyword (map (λ word. word.now) c.args.words.now) c.in-Put.is c.in_ok-version.ensures.0 in
    record { kept = c.requires.kept; stands = stands_at (so_far c.args.self.now) _ Put _ (c.in-Put.key.now ∷ map (λ word. word.now) c.in-Put.payload.now) shows.0 shows.2 c.in_ok-version.ensures.1 }

pub returns-in-Put : goal.returns-in-Put
returns-in-Put c =
    let shows = shown (entries.Put c.in-Put.key c.in-Put.payload) c.args.keyword (map (λ word. word.now) c.args.words.now) c.in-Put.is c.in_ok-version.ensures.0 in
    reads_at c.args.self.now c.take_put.new.self c.take_put.result _ Put _ (c.in-Put.key.now ∷ map (λ word. word.now) c.in-Put.payload.now) shows.0 shows.2 c.take_put.ensures

pub returns-in-Key : goal.returns-in-Key
returns-in-Key c =
    let shows = shown (entries.Key c.in-Key.name c.in-Key.kind c.in-Key.by_factor c.in-Key.numbers) c.args.keyword (map (λ word. word.now) c.args.words.now) c.in-Key.is c.in_ok-version.ensures.0 in
    reads_at c.args.self.now c.take_key.new.self c.take_key.result _ Key _ (map (λ word. word.now) c.args.words.now) shows.0 refl (c.take_key.ensures (map (λ word. word.now) c.args.words.now) shows.1 (stands_at (so_far c.args.self.now) _ Key _ (map (λ word. word.now) c.args.words.now) shows.0 refl c.in_ok-version.ensures.1))

pub returns-in-Session : goal.returns-in-Session
returns-in-Session c =
    let shows = shown (entries.Session c.in-Session.name c.in-Session.level c.in-Session.after) c.args.keyword (map (λ word. word.now) c.args.words.now) c.in-Session.is c.in_ok-version.ensures.0 in
    reads_at c.args.self.now c.take_session.new.self c.take_session.result _ Session _ (map (λ word. word.now) c.args.words.now) shows.0 refl (c.take_session.ensures (map (λ word. word.now) c.args.words.now) shows.1 (stands_at (so_far c.args.self.now) _ Session _ (map (λ word. word.now) c.args.words.now) shows.0 refl c.in_ok-version.ensures.1))

pub take_header-requires : goal.take_header-requires
take_header-requires c =
    let shows = shown (entries.Header c.in-Header.version) c.args.keyword (map (λ word. word.now) c.args.words.now) c.in-Header.is c.in_ok-version.ensures.0 in
    record { kept = c.requires.kept; stands = stands_at (so_far c.args.self.now) _ Anna _ (c.in-Header.version.now ∷ []) shows.0 shows.1 c.in_ok-version.ensures.1 }

pub returns-in-Header : goal.returns-in-Header
returns-in-Header c =
    let shows = shown (entries.Header c.in-Header.version) c.args.keyword (map (λ word. word.now) c.args.words.now) c.in-Header.is c.in_ok-version.ensures.0 in
    reads_at c.args.self.now c.take_header.new.self c.take_header.result _ Anna _ (c.in-Header.version.now ∷ []) shows.0 shows.1 c.take_header.ensures

pub returns-in_err-version : goal.returns-in_err-version
returns-in_err-version c =
    let returned = err_from_is_err_and c.from_residual.result c.from_residual.ensures.1 in
    rw (returned.1, returned.2) c.in_err-version.ensures
