use Rattle.std.proofs.Common.{sym, length-take-le}
use Rattle.writing.proofs.Placing.{listed}
use Rattle.listing.proofs.Fates.{accepted, refused}
use Rattle.listing.proofs.list.Goals as goal

pub slice_bounds-put_run-end : goal.slice_bounds-put_run-end
slice_bounds-put_run-end c = (accepted _ _ _ _ c.in-Ok.ensures.value c.in-Ok.ensures.answers_after).room

pub slice_bounds-put_run-end-in-Ok : goal.slice_bounds-put_run-end-in-Ok
slice_bounds-put_run-end-in-Ok c = sym (length-take-le _ _ (accepted _ _ _ _ c.in-Ok.ensures.value c.in-Ok.ensures.answers_after).room)

pub put_run-requires : goal.put_run-requires
put_run-requires c =
    let a = accepted _ _ _ _ c.in-Ok.ensures.value c.in-Ok.ensures.answers_after in
    record { record_bytes_least_bound = rw (length-take-le _ _ a.room) a.few; n_le_servers = a.seats }

pub returns-in-Ok : goal.returns-in-Ok
returns-in-Ok c =
    let a = accepted _ _ _ _ c.in-Ok.ensures.value c.in-Ok.ensures.answers_after in
    let t = listed _ c.put_run.ensures.wrote (rw (length-take-le _ _ a.room) a.same) in
    record {
      value = t.0;
      upper_bound = c.put_run.ensures.upper_bound;
      answers_after = c.in-Ok.ensures.answers_after;
      text_after = t.1;
    }

pub returns-in-Err : goal.returns-in-Err
returns-in-Err c =
    let t = listed _ c.put_refused.ensures.wrote (refused _ _ _ c.in-Err.ensures.value) in
    record {
      value = t.0;
      upper_bound = c.put_refused.ensures.upper_bound;
      answers_after = c.in-Err.ensures.answers_after;
      text_after = t.1;
    }
