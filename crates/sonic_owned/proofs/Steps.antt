-- The names of the logic that walks cite, in one place.
pub use Rattle.std.proofs.raw_atomic.Walks.{proved}
pub use base.Fml.{Lft, Share, ftrue, flft, Fml}
pub use base.Fraction.{full_share}
pub use base.Logic.{SProp, ent, sep, emp, id⊢}
pub use contract.BorrowLft.{◌⊑◌, ⊑_static}
pub use contract.Monad.{fact, fact_i}
pub use contract.Running.{Running, tables}
pub use denote.Builtin.{RefOf, usize}
pub use denote.Enum.Declared.{shape}
pub use denote.Enum.Enum.{Enum-Lawful}
pub use denote.Exit.{yes, no}
pub use denote.Follow.{follows_so}
pub use denote.Laws.{shows, Is}
pub use denote.Param.{param, layout, arg}
pub use denote.Param.Laws.{Laws, arg_laws}
pub use denote.Plain.{uint_vals, uint_Tells}
pub use denote.RattleType.{RattleType}
pub use denote.Ref.{MutRef, mut_vals, mut_Lawful, mut_Tells, ShrRef, shr_vals, shr_Tells}
pub use denote.Signature.{plain, mut_ref_to}
pub use denote.Steps.{nothing, peeks, heard}
pub use denote.Struct.Laws.{tells as struct_tells}
pub use denote.Triple.Call.{calls_at}
pub use denote.Triple.Clauses.{lasts}
pub use denote.Triple.Spec.{Meets, triple_of}
pub use denote.Triple.Statement.{Contract}
pub use denote.Triple.Table.{framed}
pub use denote.Triple.Walked.{Stays, walk_of, stay_dropped, Goes-dropped, Goes-spent_ref, ends_at}
pub use lib.Dec.{T}
pub use mir.Raw.{raw as bare}
pub use mir.Syntax.{Callee, Fn, named, seq, call, Body, w64}
pub use mir.Val.{Val, has_ty, WT, of_list}
pub use prog.Model.{Model}
pub use prog.Wp.{Calls, Loops, WpFn, Env}
pub use seplogic.Ra.Ura.{Ura}
pub use types.ByLocal.{alloc_all, pass_all, free_all, look_at, get, through, sets, lands_as}
pub use types.Kit.{Item, Seq, ‵, raw, mean, ◌⊛◌, ◌$◌, ◌∵◌, !, qed, done, move, use0, join, some, later, drop, use1, split, pick, await, suffices, Post, use2, keep, rewrite, fjoin}
pub use types.Logic.{Logic, sem}
pub use types.Match.{live}
pub use types.Run.{enter, addr, stop, no_more, and_then, returns, of_opd}
