use Rattle.std.proofs.Common.{leb, rules}
use Rattle.std.proofs.lemmas.List.Sorted.{IsPartitionPoint-from_clause, IsPartitionedBy-leb}
use Rattle.cb_constraints.proofs.FrontLaws.{counts_rise, ends_within, front_before}
use Rattle.cb_constraints.specs.declared.segments.Segment.{Segment}
use Rattle.cb_constraints.proofs.segments.front_of.Goals as goal

pub returns : goal.returns
returns c =
    let parted = IsPartitionedBy-leb (λ (s : Segment). s.count) c.args.segments.now c.args.count (counts_rise c.args.segments.now c.requires) in
    let point = IsPartitionPoint-from_clause (λ (s : Segment). leb s.count c.args.count) _ _ c.partition_point.ensures.partitioned parted (λ a r q k. search rules) in
    record {
      front = front_before c.args.count c.partition_point.result c.args.segments.now point;
      within = ends_within c.args.count c.partition_point.result c.args.segments.now point;
    }
