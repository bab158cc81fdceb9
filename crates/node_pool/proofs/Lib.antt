mod PoolLaws
mod FlatLaws
mod BlockLaws
