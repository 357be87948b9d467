-- Where a node leads among the items that were passed, and when they all were.
mod WayLemmas
