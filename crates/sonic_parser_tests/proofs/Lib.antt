pub mod DescentLemmas
