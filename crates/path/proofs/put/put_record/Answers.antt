-- `path::put::put_record` meets its contract: the record's start, the point and the pace side by side fill the part.
use native.Mathlib.Omega.{arith}
use Rattle.path.proofs.PlaceLaws.{size-range}
use Rattle.path.proofs.WrittenLaws.{stop-put}
use Rattle.path.proofs.put.put_record.Goals as goal

pub split_at_mut-front-requires : goal.split_at_mut-front-requires
split_at_mut-front-requires c = omega (arith, (size-range c.args.version).0)

pub returns : goal.returns
returns c = stop-put _ _ _ _ _ _ _ c.split_at_mut-front.ensures.front_len (omega (arith, c.split_at_mut-front.ensures.back_len, c.requires, (size-range c.args.version).0)) c.put_start.ensures c.put_point.ensures c.put_pace.ensures
