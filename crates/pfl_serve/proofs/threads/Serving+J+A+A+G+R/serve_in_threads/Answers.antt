use denote.Exit.{no}
use denote.Param.Send.{arg_send, arg_sync, param_send, param_sync}
use Rattle.pfl_serve.proofs.threads.Serving+J+A+A+G+R.serve_in_threads.Goals as goal

-- The closure's clauses are those of the function, and what may cross threads in the function may do so in the closure.
pub scoped-requires : goal.scoped-requires
scoped-requires g c =
    let t = c.type_bounds in
    let r = c.requires in
    record {
      at = λ _. (
        r.lab,
        (
          r.none,
          (
            r.room,
            (
              param_send 0 _ (arg_send _ no _ t.send-J),
              t.send-A,
              param_send 4 _ (arg_send _ no _ t.send-I),
              param_send 5 _ (arg_send _ no _ t.send-O),
              param_sync 0 _ (arg_sync _ no _ t.sync-J),
              t.sync-A,
              param_sync 2 _ (arg_sync _ no _ t.sync-G),
              param_sync 3 _ (arg_sync _ no _ t.sync-R),
              t.frees-A-Allocator,
            ),
          ),
        ),
      );
    }
