mod Building
mod Goods
mod Running
mod Writing
